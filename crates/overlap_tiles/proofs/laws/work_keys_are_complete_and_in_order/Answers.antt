use Rattle.overlap_tiles.proofs.WorkIsExact.{work_has, work_rises}
use Rattle.overlap_tiles.proofs.laws.work_keys_are_complete_and_in_order.Goals as goal

pub returns-clause-all : goal.returns-clause-all
returns-clause-all c = λ job inlining t. work_has job inlining t

pub returns-clause-order : goal.returns-clause-order
returns-clause-order c = λ job inlining. work_rises job inlining
