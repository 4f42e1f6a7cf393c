use Rattle.tile_boxes.proofs.OrderHasEachStage.{order_has, order_pairs, reads_come_before}
use Rattle.grouping.proofs.laws.schedule_order_has_each_stage.Goals as goal

pub returns-clause-all : goal.returns-clause-all
returns-clause-all c = order_has

pub returns-clause-order : goal.returns-clause-order
returns-clause-order c = order_pairs

pub returns-clause-reads : goal.returns-clause-reads
returns-clause-reads c = reads_come_before
