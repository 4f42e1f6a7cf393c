-- What an accumulator reads and accumulates at points.
use Rattle.std.specs.Prelude.{ℕ, ℤ, ◌≡◌, List, length}
use Rattle.domains.specs.Span.{len_of}
use Rattle.job.specs.declared.stage.Accumulator.{Accumulator}
use Rattle.job.specs.Reads.{EachRead}
use Rattle.job.specs.Values.{Valuation, formula_value}
use Rattle.job.specs.Views.{formula_view}
use Rattle.job.specs.WellFormed.{IsFormula}
use Rattle.tile_eval.specs.Reading.{HasRoom}
use Rattle.reductions.specs.Bins.{starts, joined_bins}
use Rattle.reductions.specs.inside.Gathering.{TookIn}

-- the numbers of the text fit
pub record HasFormulas (a : Accumulator) : Type 0 where
  pub value : IsFormula (formula_view a.value)
  pub bin : IsFormula (formula_view a.bin)

-- `has` says for a stage, a row and a column whether a sample is available: all that is read at the point is available
abbrev pub ReadsAt : (ℕ → ℤ → ℤ → Type 0) → Accumulator → ℤ → ℤ → Type 0
ReadsAt has a r c = EachRead has (formula_view a.value) r c × EachRead has (formula_view a.bin) r c

-- a capacity of `room` numbers suffices for the operands at n points
pub record HasRoomAlong (a : Accumulator) (n room : ℕ) : Type 0 where
  pub value : HasRoom (formula_view a.value) n room
  pub bin : HasRoom (formula_view a.bin) n room

-- the bins accumulated these points, where env has the values of the stages
abbrev pub TookPoints : Valuation → Accumulator → List (ℤ × ℤ) → List ℤ → List ℤ → Type 0
TookPoints env a points old new =
    TookIn a.fold (formula_value env (formula_view a.value)) (formula_value env (formula_view a.bin)) a.bins.lo points old new

-- numbers of the bins of an accumulator: joining one with the start value of bins does not change it
pub record AreBins (a : Accumulator) (xs : List ℤ) : Type 0 where
  pub count : length xs ≡ len_of a.bins
  pub kept : joined_bins a.fold xs (starts a.fold a.bins) ≡ xs
