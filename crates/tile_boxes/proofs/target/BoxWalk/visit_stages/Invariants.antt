use Rattle.std.proofs.Common.{◌≡◌, drop}
use Rattle.tile_boxes.specs.Walks.{target_of, walked}
use Rattle.tile_boxes.proofs.target.BoxWalk.visit_stages.Given as goal

abbrev pub invariant-loop-number : goal.invariant-loop-number
invariant-loop-number l = walked (target_of l.self) l.hulls (drop l.number-index l.numbers) ≡ walked (target_of l.self) l.fn.hulls l.numbers
