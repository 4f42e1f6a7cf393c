-- The first of the tiles that a run makes that takes too much scratch memory.
use Rattle.std.specs.Prelude.{ℕ, ◌≡◌, Bool, Option, Some, List, find}
use Rattle.std.specs.Option.{option_map}
use Rattle.job.specs.Answers.{Tile}
use Rattle.job.specs.Pipeline.{Pipeline}
use Rattle.overlap_tiles.specs.Needs.{key_of}
use Rattle.overlap_tiles.specs.Work.{tiles_in_order, is_tile_over_scratch_limit}
pub use Rattle.overlap_tiles.specs.Work.{is_stored_function, is_accumulator_at}
use Rattle.tile_run.specs.declared.room.TiledStages.{TiledStages}
use Rattle.tile_run.specs.declared.room.TiledStages.TheVariants.{Functions, Accumulators}
use Rattle.tile_run.specs.declared.fault.RunFault.{RunFault}
use Rattle.tile_run.specs.declared.fault.RunFault.TheVariants.{ScratchTooBig, Memory}

-- ---- the stages whose tiles are made

-- the stages of a kind of work
abbrev pub wanted_by : Pipeline → List Bool → TiledStages → ℕ → Bool
wanted_by job inlining Functions = is_stored_function job inlining
wanted_by job inlining Accumulators = is_accumulator_at job

-- ---- the first tile that does not fit

abbrev pub first_too_big : Pipeline → List Bool → (ℕ → Bool) → Option Tile
first_too_big job inlining wants = find (is_tile_over_scratch_limit job inlining) (tiles_in_order job wants)

-- why a run has no answer: a tile does not fit in scratch memory, and each before it does; memory may be refused at any
abbrev pub IsRunFault : List ℕ → Pipeline → List Bool → (ℕ → Bool) → RunFault → Type 0
IsRunFault program job inlining wants (ScratchTooBig key) = option_map (key_of program job) (first_too_big job inlining wants) ≡ Some key
IsRunFault program job inlining wants Memory = Unit {0}
