use Rattle.node_histories.proofs.PlayingLaws.{held_is_taken, kept_is_taken}
use Rattle.node_histories.proofs.laws.node_histories_leave_what_was_taken.Goals as goal

pub returns : goal.returns
returns c = record { held = held_is_taken; kept = kept_is_taken }
