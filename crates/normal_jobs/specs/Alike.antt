-- Jobs that answer alike.
use Rattle.std.specs.Prelude.{◌≡◌, ℕ, ℤ, List, [], ◌∷◌, All}
use Rattle.std.specs.List.{AllZip}
use Rattle.job.specs.Answers.{image}
use Rattle.job.specs.Pipeline.{Body, plane, function, accumulator, Stage, Pipeline}
use Rattle.job.specs.Totals.{totals}
use Rattle.job.specs.Values.{value}
use Rattle.job.specs.WellFormed.{IsFunction, IsReadable}

-- the same plane; two functions; or accumulators that join numbers in the same way, over the same bins
abbrev pub IsSameKind : Body → Body → Type 0
IsSameKind (plane n) (plane m) = m ≡ n
IsSameKind (plane n) (function cases otherwise) = ⊥
IsSameKind (plane n) (accumulator fold bins value bin) = ⊥
IsSameKind (function cases otherwise) (plane n) = ⊥
IsSameKind (function cases otherwise) (function others other) = Unit {0}
IsSameKind (function cases otherwise) (accumulator fold bins value bin) = ⊥
IsSameKind (accumulator fold bins value bin) (plane n) = ⊥
IsSameKind (accumulator fold bins value bin) (function cases otherwise) = ⊥
IsSameKind (accumulator fold bins value bin) (accumulator other ends amount place) = (other ≡ fold) × (ends ≡ bins)

-- stages of one name, domain and kind
pub record LooksAlike (s t : Stage) : Type 0 where
  pub name : t.name ≡ s.name
  pub domain : t.domain ≡ s.domain
  pub body : IsSameKind s.body t.body

abbrev pub LookAlike : List Stage → List Stage → Type 0
LookAlike = AllZip LooksAlike

-- the stages of a job look like the first ones of another, behind which come functions
abbrev pub BeginAlike : List Stage → List Stage → Type 0
BeginAlike [] more = All (λ s. IsFunction s.body) more
BeginAlike (s ∷ ss) [] = ⊥
BeginAlike (s ∷ ss) (t ∷ ts) = LooksAlike s t × BeginAlike ss ts

-- the stages of a job look like the first ones of another, and have the same values; so pictures and totals are the same
pub record AnswersAlike (job other : Pipeline) : Type 0 where
  pub stages : BeginAlike job.stages other.stages
  pub values : (g : ℕ) (r c : ℤ) → IsReadable job.stages g r c → value other g r c ≡ value job g r c
  pub image : image other ≡ image job
  pub totals : (g : ℕ) → totals other g ≡ totals job g
