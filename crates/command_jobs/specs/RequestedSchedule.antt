-- Which functions of a job are inlined by the options of a command.
use Rattle.std.specs.Prelude.{ℕ, Bool, if◌then◌else◌, List}
use Rattle.job.specs.Pipeline.{Pipeline}
use Rattle.grouping.specs.Greedy.{greedy_inlining}
use Rattle.tile_boxes.specs.Schedules.{all_stored}

-- none where all are to be stored, else those that the greedy rule inlines
abbrev pub requested_inlining : Bool → ℕ → Pipeline → List Bool
requested_inlining stored percent job = if stored then all_stored job else greedy_inlining job percent
