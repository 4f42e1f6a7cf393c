use Rattle.tile_boxes.proofs.BoxesHoldWhatIsRead.{has_what_it_reads}
use Rattle.grouping.proofs.laws.boxes_of_schedules_hold_all_reads.Goals as goal

pub returns : goal.returns
returns c = has_what_it_reads
