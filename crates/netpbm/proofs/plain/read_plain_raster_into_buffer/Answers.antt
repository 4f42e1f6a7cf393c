-- A sample more, its fault, and what stands behind the last one.
use Rattle.std.proofs.Common.{◌∙◌, sym, inl, rules}
use Rattle.std.proofs.lemmas.Result.{err_from_is_err_and}
use Rattle.netpbm.specs.Reading.{samples_read}
use Rattle.netpbm.proofs.Loops.{goes_on, fails, is_done, plain_fails, plain_ends}
use Rattle.netpbm.proofs.plain.read_plain_raster_into_buffer.Goals as goal

pub returns-in_err-sample : goal.returns-in_err-sample
returns-in_err-sample c =
    let a = c.args in
    let p = err_from_is_err_and c.from_residual.result c.from_residual.ensures.1 in
    let total = samples_read a.count a.bytes.now a.start a.max in
    rw (p.1, p.2) (inl (plain_fails a.bytes.now a.start a.max a.count _ (fails c.loop.samples.items a.bytes.now a.max a.count c.loop.counter
    c.loop.at _ total c.loop-test.true (sym c.in_err-sample.ensures.read) c.loop.invariant.3)))

pub loop-preserved : goal.loop-preserved
loop-preserved c =
    let a = c.args in
    let total = samples_read a.count a.bytes.now a.start a.max in (
      search rules,
      search rules,
      search rules,
      rw c.push_reserved.ensures.items (goes_on c.loop.samples.items a.bytes.now a.max a.count c.loop.counter c.loop.at
          c.in_ok-sample.sample c.in_ok-sample.end total c.loop-test.true (sym c.in_ok-sample.ensures.read) c.loop.invariant.3),
    )

pub returns-in_err-check_plain_raster_end : goal.returns-in_err-check_plain_raster_end
returns-in_err-check_plain_raster_end c =
    let a = c.args in
    let p = err_from_is_err_and c.from_residual-in_err-check_plain_raster_end.result c.from_residual-in_err-check_plain_raster_end.ensures.1 in
    let total = samples_read a.count a.bytes.now a.start a.max in
    let all = is_done c.loop.samples.items a.bytes.now a.max a.count c.loop.counter c.loop.at total c.loop-test.false c.loop.invariant.3 in
    rw (p.1, p.2) (inl (plain_ends a.bytes.now a.start a.max a.count c.loop.at c.loop.samples.items all
    ∙ c.in_err-check_plain_raster_end.ensures.err c.loop.samples.items))

pub returns : goal.returns
returns c =
    let a = c.args in
    let total = samples_read a.count a.bytes.now a.start a.max in
    let all = is_done c.loop.samples.items a.bytes.now a.max a.count c.loop.counter c.loop.at total c.loop-test.false c.loop.invariant.3 in
    plain_ends a.bytes.now a.start a.max a.count c.loop.at c.loop.samples.items all ∙ c.in_ok-check_plain_raster_end.ensures.ok c.loop.samples.items
