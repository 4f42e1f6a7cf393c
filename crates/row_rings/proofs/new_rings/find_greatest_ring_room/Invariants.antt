use Rattle.std.proofs.Common.{ℕ, ◌≡◌, ◌<◌, false}
use Rattle.std.specs.Prelude.{slice_index_or}
use Rattle.job.specs.Kept.{pipeline_in}
use Rattle.row_rings.specs.TrueRings.{HasOwnRoom}
use Rattle.row_rings.proofs.new_rings.find_greatest_ring_room.Given as goal

abbrev pub invariant-loop-stage : goal.invariant-loop-stage
invariant-loop-stage l =
    (g : ℕ) → g < l.stage → slice_index_or l.computed_narrow g false ≡ l.narrow → HasOwnRoom (pipeline_in l.job) g l.room
