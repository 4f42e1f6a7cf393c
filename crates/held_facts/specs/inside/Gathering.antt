-- The partials that are held of a stage, row by row, and what was accumulated of them.
use Rattle.std.specs.List.{flat_map, range_with_len}
use Rattle.std.specs.Prelude.{◌≡◌, ◌++◌, ℕ, ℤ, List}
use Rattle.accumulators.specs.Gatherings.{HasTaken}
use Rattle.accumulators.specs.declared.running.RunningTotal.{RunningTotal}
use Rattle.job.specs.Pipeline.{Pipeline}
use Rattle.held_facts.specs.HeldAnswers.{partials_of}
use Rattle.held_facts.specs.Facts.{FactSet}
use Rattle.held_facts.specs.inside.Judging.{tile_key}

-- those of the first n tiles of row i
abbrev pub row_partials : FactSet → List ℕ → Pipeline → ℕ → ℕ → ℕ → List (List ℤ)
row_partials s program job g n i = flat_map (λ j. partials_of s (tile_key program job g i j)) (range_with_len 0 n)

-- after what was taken before, these partials of stage g were taken
pub record CameIn (job : Pipeline) (g : ℕ) (xs : List (List ℤ)) (before now : RunningTotal) : Type 0 where
  pub span : now.span ≡ before.span
  pub taken : (partials : List (List ℤ)) → HasTaken job g partials before → HasTaken job g (partials ++ xs) now
