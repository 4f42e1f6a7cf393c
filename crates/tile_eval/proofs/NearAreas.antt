-- Areas of domains, and near ones.
use Rattle.std.proofs.Common.{arith, ℕ, ◌≡◌, Some, slice_get}
use Rattle.std.proofs.lemmas.Int.{ints}
use Rattle.domains.specs.Area.{IsArea, IsSubarea}
use Rattle.domains.specs.declared.area.Area.{Area}
use Rattle.job.specs.Pipeline.{Stage, Pipeline}
use Rattle.job.specs.WellFormed.{InDomainRange, IsJob}

-- the domain of a stage is an area
pub domain_is_area : (job : Pipeline) → IsJob job → (g : ℕ) (s : Stage) → slice_get job.stages g ≡ Some s → IsArea s.domain
domain_is_area job is g s there = let h = is.stages g s there in record { rows = h.rows.span; cols = h.cols.span }

-- areas of near areas are near
pub near_inside : (a domain : Area) → IsArea a → IsSubarea a domain → InDomainRange domain.rows → InDomainRange domain.cols
    → InDomainRange a.rows × InDomainRange a.cols
near_inside a domain is inside rows cols =
    let across = is.rows.ordered in let along = is.cols.ordered in
    let first = inside a.rows.lo a.cols.lo ((omega (arith, ints), omega (arith, ints)), (omega (arith, ints), omega (arith, ints))) in
    let last = inside a.rows.hi a.cols.hi ((omega (arith, ints), omega (arith, ints)), (omega (arith, ints), omega (arith, ints))) in
    let top = first.0.0 in let left = first.1.0 in let bottom = last.0.1 in let right = last.1.1 in
    let top_most = rows.least in let left_most = cols.least in let bottom_most = rows.most in let right_most = cols.most in (
      record { span = is.rows; least = omega (arith, ints); most = omega (arith, ints) },
      record { span = is.cols; least = omega (arith, ints); most = omega (arith, ints) },
    )
