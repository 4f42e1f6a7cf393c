-- A sample more, its fault, and what stands behind the last one.
use Rattle.std.proofs.Common.{◌++◌, ◌∷◌, [], sym, rules}
use Rattle.std.proofs.lemmas.Result.{err_from_is_err_and}
use Rattle.netpbm.specs.Reading.{samples_read, plain_read}
use Rattle.netpbm.proofs.Loops.{goes_on, fails, is_done, plain_fails, plain_ends, checks_end}
use Rattle.netpbm.proofs.plain.check_plain_raster.Goals as goal

pub returns-in_err-end : goal.returns-in_err-end
returns-in_err-end c =
    let a = c.args in
    let p = err_from_is_err_and c.from_residual.result c.from_residual.ensures.1 in
    let total = samples_read a.count a.bytes.now a.start a.max in
    rw (p.1, p.2) (plain_fails a.bytes.now a.start a.max a.count _ (fails c.loop.invariant.1 a.bytes.now a.max a.count c.loop.counter
    c.loop.at _ total c.loop-test.true (sym c.in_err-end.ensures.read) c.loop.invariant.2))

pub loop-preserved : goal.loop-preserved
loop-preserved c =
    let a = c.args in
    let sample = c.in_ok-end.field-0-0 in
    let front = c.loop.invariant.1 in
    let total = samples_read a.count a.bytes.now a.start a.max in (
      search rules,
      front ++ sample ∷ [],
      goes_on front a.bytes.now a.max a.count c.loop.counter c.loop.at sample c.in_ok-end.end total c.loop-test.true
          (sym c.in_ok-end.ensures.read) c.loop.invariant.2,
    )

pub returns : goal.returns
returns c =
    let a = c.args in
    let front = c.loop.invariant.1 in
    let total = samples_read a.count a.bytes.now a.start a.max in
    let all = is_done front a.bytes.now a.max a.count c.loop.counter c.loop.at total c.loop-test.false c.loop.invariant.2 in
    checks_end c.check_plain_raster_end.result a.bytes.now c.loop.at front (plain_read a.bytes.now a.start a.max a.count) c.check_plain_raster_end.ensures.ok
    c.check_plain_raster_end.ensures.err (plain_ends a.bytes.now a.start a.max a.count c.loop.at front all)
