use Rattle.std.proofs.Common.{◌≡◌, ◌+◌, ◌+ℤ◌, drop, ap, arith}
use Rattle.std.proofs.lemmas.Int.{ints}
use Rattle.pipe_bounds.specs.Settings.{affine_value, affine_term_value}
use Rattle.domains.proofs.Places.{next_of}
use Rattle.pipe_bounds.proofs.affine.affine_value.Goals as goal

pub loop-term-preserved : goal.loop-term-preserved
loop-term-preserved c =
    let xs = c.terms-term-items.result.now in
    let ss = c.args.params.now in
    let i = c.loop-term.term-index in
    let step : affine_value ss (drop i xs) ≡ affine_term_value ss c.term-item.result +ℤ affine_value ss (drop (i + 1) xs) =
    ap (affine_value ss) (next_of xs i _ c.loop-term-test.true c.term-item.is) in
    let low = c.affine_term_value-total.ensures.least in
    let high = c.affine_term_value-total.ensures.most in
    (omega (arith, ints, step, c.loop-term.invariant.0, c.affine_term_value-total.ensures.value), omega (arith, ints), omega (arith, ints))
