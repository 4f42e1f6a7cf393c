-- What formulas and stages read, and the ranks of stages.
use Rattle.std.specs.Prelude.{ℕ, ◌+◌, ◌<◌, ℤ, ◌≡◌, Option, Some, None, List, [], ◌∷◌, ◌++◌, map, length, slice_get, All}
use Rattle.std.specs.List.{flat_map}
use Rattle.std.specs.Option.{ForSome}
use Rattle.domains.specs.Index.{Scale, index_at}
use Rattle.domains.specs.Area.{HoldsPoint}
use Rattle.domains.specs.declared.area.Area.{Area}
use Rattle.domains.specs.Greatest.{greatest}
use Rattle.job.specs.Formula.{Formula, number, coordinate, read, unary, binary, ternary, literal, lookup, select, stencil}
use Rattle.job.specs.Pipeline.{JobCase, Body, plane, function, accumulator, Stage, rank_of}
use Rattle.job.specs.Values.{Valuation, factors, kernel_row, kernel_column}

-- a stage at one point, or at the points under a kernel
pub data Read : Type 0 where
  point : ℕ → Scale → Scale → Read
  window : ℕ → List (List ℤ) → Read

abbrev pub stage_read : Read → ℕ
stage_read (point g i j) = g
stage_read (window g kernel) = g

-- the reads of a formula, in the order of the text
abbrev pub reads_in : Formula → List Read
reads_in (number n) = []
reads_in (coordinate x) = []
reads_in (read g i j) = point g i j ∷ []
reads_in (unary op a) = reads_in a
reads_in (binary op a b) = reads_in a ++ reads_in b
reads_in (ternary op a b c) = reads_in a ++ reads_in b ++ reads_in c
reads_in (literal op a n) = reads_in a
reads_in (lookup t a) = reads_in a
reads_in (select a relation b first second) = reads_in a ++ reads_in b ++ reads_in first ++ reads_in second
reads_in (stencil g divisor kernel) = window g kernel ∷ []

-- ---- the points that are read

-- P holds of the stage and of each of its points that a read takes at the point of row r and column c
abbrev pub EachTaken : (ℕ → ℤ → ℤ → Type 0) → Read → ℤ → ℤ → Type 0
EachTaken P (point g i j) r c = P g (index_at i r) (index_at j c)
EachTaken P (window g kernel) r c =
    (a b : ℕ) → a < length kernel → b < length (factors kernel a) → P g (kernel_row kernel r a) (kernel_column kernel c b)

-- and of all that a formula reads there; both sides of a select count
abbrev pub EachRead : (ℕ → ℤ → ℤ → Type 0) → Formula → ℤ → ℤ → Type 0
EachRead P f r c = All (λ x. EachTaken P x r c) (reads_in f)

-- two valuations have one value for a stage at a point
abbrev pub SameAt : Valuation → Valuation → ℕ → ℤ → ℤ → Type 0
SameAt e h g r c = e g r c ≡ h g r c

-- they have one value for all that a formula reads, at each point of a region
abbrev pub AgreeOver : Valuation → Valuation → Area → Formula → Type 0
AgreeOver e h region f = (r c : ℤ) → HoldsPoint region r c → EachRead (SameAt e h) f r c

-- ---- stages

-- P holds of all that a case reads at a point, if this lies in its box
abbrev pub CaseReads : (ℕ → ℤ → ℤ → Type 0) → JobCase → ℤ → ℤ → Type 0
CaseReads P p r c = ForSome p.box (λ box. HoldsPoint box r c → EachRead P p.formula r c)

-- P holds of all that a stage reads at a point. The formula outside the cases counts at each point
abbrev pub BodyReads : (ℕ → ℤ → ℤ → Type 0) → Body → ℤ → ℤ → Type 0
BodyReads P (plane n) r c = Unit {0}
BodyReads P (function cases otherwise) r c = All (λ p. CaseReads P p r c) cases × ForSome otherwise (λ f. EachRead P f r c)
BodyReads P (accumulator fold bins value bin) r c = EachRead P value r c × EachRead P bin r c

abbrev pub other_formula : Option Formula → List Formula
other_formula None = []
other_formula (Some f) = f ∷ []

-- the formulas of a stage, in the order of the text
abbrev pub formulas_of : Body → List Formula
formulas_of (plane n) = []
formulas_of (function cases otherwise) = map (λ p. p.formula) cases ++ other_formula otherwise
formulas_of (accumulator fold bins value bin) = value ∷ bin ∷ []

abbrev pub reads_of : Body → List Read
reads_of body = flat_map reads_in (formulas_of body)

-- the rank of a stage by the ranks of those that it reads: 0 of a plane, else 1 more than the greatest, or 1
abbrev pub rank_by : List Stage → Body → ℕ
rank_by stages (plane n) = 0
rank_by stages (function cases otherwise) = greatest (map (λ x. rank_of stages (stage_read x)) (reads_of (function cases otherwise))) + 1
rank_by stages (accumulator fold bins value bin) =
    greatest (map (λ x. rank_of stages (stage_read x)) (reads_of (accumulator fold bins value bin))) + 1

-- each stage has its rank
abbrev pub IsRanked : List Stage → Type 0
IsRanked stages = (g : ℕ) (s : Stage) → slice_get stages g ≡ Some s → s.rank ≡ rank_by stages s.body
