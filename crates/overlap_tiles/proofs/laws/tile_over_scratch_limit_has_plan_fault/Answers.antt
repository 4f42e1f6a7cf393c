use Rattle.overlap_tiles.proofs.RoomIsExact.{room_is}
use Rattle.overlap_tiles.proofs.laws.tile_over_scratch_limit_has_plan_fault.Goals as goal

pub returns : goal.returns
returns c = λ job inlining t. room_is job inlining t
