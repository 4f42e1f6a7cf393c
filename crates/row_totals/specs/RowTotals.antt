-- What an accumulator accumulates over adjacent rows of the area that it reduces.
use Rattle.std.specs.Prelude.{ℕ, ℤ, pos, ◌+ℤ◌, ◌-ℤ◌, ◌≡◌, Bool, false, Some, List, [], slice_get}
use Rattle.std.specs.Option.{option_map_or}
use Rattle.domains.specs.Area.{HoldsPoint}
use Rattle.domains.specs.declared.area.Area.{Area}
use Rattle.job.specs.Answers.{is_accumulator}
use Rattle.job.specs.Pipeline.{accumulator, Stage, Pipeline}
use Rattle.job.specs.Reads.{BodyReads}
use Rattle.job.specs.Totals.{totals_over}
use Rattle.job.specs.Values.{Valuation, value}
use Rattle.job.specs.Views.{formula_view}
use Rattle.job.specs.declared.stage.Accumulator.{Accumulator}

-- stage g is an accumulator
abbrev pub is_summed : Pipeline → ℕ → Bool
is_summed job g = option_map_or (λ s. is_accumulator s.body) (slice_get job.stages g) false

-- stage g is this stage, an accumulator
pub record IsSummedBy (job : Pipeline) (g : ℕ) (s : Stage) (a : Accumulator) : Type 0 where
  pub there : slice_get job.stages g ≡ Some s
  pub body : s.body ≡ accumulator a.fold a.bins (formula_view a.value) (formula_view a.bin)

-- n rows of an area, from the one at this place on
abbrev pub rows_from : Area → ℕ → ℕ → Area
rows_from area first n =
    record { rows = record { lo = area.rows.lo +ℤ pos first; hi = area.rows.lo +ℤ pos first +ℤ pos n -ℤ pos 1 }; cols = area.cols }

-- the totals of accumulator g over n rows of its domain, from the one at this place on
abbrev pub totals_from : Pipeline → ℕ → ℕ → ℕ → List ℤ
totals_from job g first n = option_map_or (λ s. totals_over job (rows_from s.domain first n) g) (slice_get job.stages g) []

-- all that stage g reads in the row at this place is available
abbrev pub IsRowRead : (ℕ → ℤ → ℤ → Type 0) → Pipeline → ℕ → ℕ → Type 0
IsRowRead has job g place =
    (s : Stage) → slice_get job.stages g ≡ Some s → (c : ℤ) → HoldsPoint s.domain (s.domain.rows.lo +ℤ pos place) c
    → BodyReads has s.body (s.domain.rows.lo +ℤ pos place) c

-- what is available are values of the job
abbrev pub AreValues : (ℕ → ℤ → ℤ → Type 0) → Valuation → Pipeline → Type 0
AreValues has samples job = (g : ℕ) (r c : ℤ) → has g r c → samples g r c ≡ value job g r c
