use Rattle.std.proofs.Common.{rules, ◌≡◌, ◌-ℤ◌, FitsSigned, w32, ap, ◌∙◌}
use Rattle.std.proofs.lemmas.Int.{to_z-of_z}
use Rattle.domains.specs.Span.{Ends}
use Rattle.joined_formulas.proofs.Composed.{some_then}
use Rattle.part_stages.proofs.part_reads.move_part_span.Goals as goal

pub returns-clause-lo : goal.returns-clause-lo
returns-clause-lo c =
    let low : c.in_ok-lo.lo ≡ c.args.span.now.lo -ℤ c.args.index.now.add = search rules in
    let fits : FitsSigned w32 c.in_ok-lo.lo = search rules in
    some_then c.new.result c.new.ensures.some (λ t e. ap (λ (s : Ends). s.lo) e ∙ to_z-of_z w32 c.in_ok-lo.lo fits ∙ low)

pub returns-clause-hi : goal.returns-clause-hi
returns-clause-hi c =
    let high : c.in_ok-hi.hi ≡ c.args.span.now.hi -ℤ c.args.index.now.add = search rules in
    let fits : FitsSigned w32 c.in_ok-hi.hi = search rules in
    some_then c.new.result c.new.ensures.some (λ t e. ap (λ (s : Ends). s.hi) e ∙ to_z-of_z w32 c.in_ok-hi.hi fits ∙ high)
