use Rattle.std.proofs.Common.{arith, ◌+ℤ◌, ◌∙◌, pos, take, ap}
use Rattle.domains.specs.Arithmetic.{wrapped}
use Rattle.linear_rows.specs.inside.LinearSums.{taps_value}
use Rattle.linear_rows.proofs.LinearValues.{slice_more}
use Rattle.linear_rows.proofs.linear_sums.+add_linear_taps.Goals as goal

pub returns-then-not-is_empty : goal.returns-then-not-is_empty
returns-then-not-is_empty g t c = λ k l s e.
    let points = c.args.points.now in
    let env = g.S.NarrowSource.samples c.args.source.now in
    let count = c.add_first_linear_taps-count.result in
    let taps = c.args.taps.now in
    let kept = c.add_first_linear_taps-count.auto.out in
    c.add_linear_taps.ensures k (omega (arith, l, kept)) (s +ℤ taps_value env (take count taps) points.row (points.col +ℤ pos k))
    (c.add_first_linear_taps-count.ensures.sums k l s e)
    ∙ ap wrapped (slice_more env points.row (points.col +ℤ pos k) s count taps)
