use Rattle.std.proofs.Common.{take}
use Rattle.tile_eval.specs.inside.Counted.{IsCounted}
use Rattle.tile_eval.proofs.Rooms.{cases_room_of}
use Rattle.tile_eval.proofs.room.compute_operand_capacity_of_cases.Given as goal

abbrev pub invariant-loop-case : goal.invariant-loop-case
invariant-loop-case l = IsCounted l.room (cases_room_of (take l.case-index l.cases) l.fn.n)
