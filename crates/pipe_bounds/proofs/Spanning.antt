-- The domains of stages lie near 0.
use Rattle.std.proofs.Common.{ℤ, Some, Ok, List, arith}
use Rattle.std.proofs.lemmas.Int.{ints}
use Rattle.domains.specs.Span.{Ends}
use Rattle.domains.specs.Area.{IsArea}
use Rattle.domains.specs.Cuts.{IsCutArea}
use Rattle.domains.specs.declared.area.Area.{Area}
use Rattle.pipe_tree.specs.Tree.{Declaration, param, image, table, function, accumulator, output}
use Rattle.pipe_bounds.specs.declared.params.Setting.{Setting}
use Rattle.pipe_bounds.specs.Domains.{IsSpanFrom, IsSides, IsDomain}
use Rattle.pipe_bounds.specs.inside.Taken.{InDomainRange, InDomainRanges}

near_span : (first last : ℤ) (e : Ends) → IsSpanFrom first last e → InDomainRange e
near_span first last e h v holds = (omega (arith, ints, h.lo, h.least, holds), omega (arith, ints, h.hi, h.most, holds))

near_sides : (side : ℤ) (e : Ends) → IsSides side e → InDomainRange e
near_sides side e h v holds = (omega (arith, ints, h.lo, holds), omega (arith, ints, h.hi, h.most, holds))

pub near_domain : (ss : List Setting) (d : Declaration) (a : Area) → IsDomain ss d (Ok a) → InDomainRanges a
near_domain ss (param p) a h = let never : ⊥ = cc in absurd never
near_domain ss (image i) a h = (near_sides _ a.rows h.0, near_sides _ a.cols h.1)
near_domain ss (table t) a h = let never : ⊥ = cc in absurd never
near_domain ss (function f) a h = (near_span _ _ a.rows h.0, near_span _ _ a.cols h.1)
near_domain ss (accumulator x) a h = (near_span _ _ a.rows h.2.0, near_span _ _ a.cols h.2.1)
near_domain ss (output o) a h = let never : ⊥ = cc in absurd never

-- and so do their boxes
pub near_box : (P : ℤ → ℤ → Type 0) (domain box : Area) → IsCutArea P domain (Some box) → IsArea box → InDomainRanges domain
    → InDomainRanges box
near_box P domain box cut is near = (
  (λ v h. near.0 v ((cut v box.cols.lo).0 (h, (omega (arith, ints), is.cols.ordered))).0.0),
  (λ v h. near.1 v ((cut box.rows.lo v).0 ((omega (arith, ints), is.rows.ordered), h)).0.1),
)
