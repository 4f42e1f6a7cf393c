-- What is narrow is so in one way.
use Rattle.std.proofs.Common.{ℤ}
use Rattle.std.proofs.Math.Logic.{∥∥₁_elim, ∥∥₁_map}
use Rattle.std.proofs.Props.{props}
use Rattle.job.specs.Formula.{Formula, number, coordinate, read, unary, binary, ternary, literal, lookup, select, stencil}
use Rattle.job.specs.Pipeline.{Body, plane, function, accumulator}
use Rattle.job.specs.Values.{Valuation}
use Rattle.value_ranges.specs.Narrow.{Fits16, IsNarrow}
use Rattle.value_ranges.specs.Ranges.{IsNarrowBody}

-- ---- formulas

least_fits : (v : ℤ) → ∥ Fits16 v ∥₁ → Fits16 v
least_fits v h = ∥∥₁_elim h (hlevel props) (λ x. x)

least_formula : (env : Valuation) (f : Formula) (r c : ℤ) → ∥ IsNarrow env f r c ∥₁ → IsNarrow env f r c
least_formula env (number n) r c h = ∥∥₁_elim h (hlevel props) (λ x. x)
least_formula env (coordinate x) r c h = ∥∥₁_elim h (hlevel props) (λ x. x)
least_formula env (read g i j) r c h = ∥∥₁_elim h (hlevel props) (λ x. x)
least_formula env (unary op a) r c h = (least_formula env a r c (∥∥₁_map h (λ x. x.0)), least_fits _ (∥∥₁_map h (λ x. x.1)))
least_formula env (binary op a b) r c h = (
  least_formula env a r c (∥∥₁_map h (λ x. x.0)),
  least_formula env b r c (∥∥₁_map h (λ x. x.1)),
  least_fits _ (∥∥₁_map h (λ x. x.2)),
)
least_formula env (ternary op a b d) r c h = (
  least_formula env a r c (∥∥₁_map h (λ x. x.0)),
  least_formula env b r c (∥∥₁_map h (λ x. x.1)),
  least_formula env d r c (∥∥₁_map h (λ x. x.2)),
  least_fits _ (∥∥₁_map h (λ x. x.3)),
)
least_formula env (literal op a n) r c h = (least_formula env a r c (∥∥₁_map h (λ x. x.0)), least_fits _ (∥∥₁_map h (λ x. x.1)))
least_formula env (lookup t a) r c h = ∥∥₁_elim h (hlevel props) (λ x. x)
least_formula env (select a relation b first second) r c h = (
  least_formula env a r c (∥∥₁_map h (λ x. x.0)),
  least_formula env b r c (∥∥₁_map h (λ x. x.1)),
  least_formula env first r c (∥∥₁_map h (λ x. x.2)),
  least_formula env second r c (∥∥₁_map h (λ x. x.3)),
)
least_formula env (stencil g divisor kernel) r c h = ∥∥₁_elim h (hlevel props) (λ x. x)

-- ---- stages

pub least_body : (env : Valuation) (body : Body) (r c : ℤ) → ∥ IsNarrowBody env body r c ∥₁ → IsNarrowBody env body r c
least_body env (plane n) r c h = ∥∥₁_elim h (hlevel props) (λ x. x)
least_body env (function cases otherwise) r c h = record {
  boxes = λ k d l. λ box is inside. least_formula env _ r c (∥∥₁_map h (λ x. x.boxes k d l box is inside));
  other = λ f is. least_formula env f r c (∥∥₁_map h (λ x. x.other f is));
}
least_body env (accumulator fold bins value bin) r c h = ∥∥₁_elim h (hlevel props) (λ x. x)
