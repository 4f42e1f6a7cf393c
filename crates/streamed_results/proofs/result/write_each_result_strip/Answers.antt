use Rattle.std.proofs.Common.{ℕ, List, get_or, arith, ap, ◌∙◌}
use Rattle.row_streams.specs.declared.strip_streams.StripStream.{StripStream}
use Rattle.command_faults.proofs.Taken.{part_more, takes_err}
use Rattle.streamed_results.proofs.PiecesAreRows.{part_as}
use Rattle.streamed_results.proofs.result.write_each_result_strip.Goals as goal

pub returns-in_err-write_all_bytes : goal.returns-in_err-write_all_bytes
returns-in_err-write_all_bytes g c =
    let failed = c.in_err-write_all_bytes.ensures in
    let items : StripStream → List ℕ = λ strip. strip.bytes.items in
    let part =
    part_as c.deref.result.now (items (get_or c.args.strips.now c.loop-strip.strip-index c.strip-item.result)) _ _ _ _
    (c.deref.ensures.value ∙ ap items c.strip-item.is)
    (record { taken = failed.part; failures = failed.failed }) in
    takes_err c.from_residual.result _ _ _ _ _ c.from_residual.ensures.0
    (part_more items c.args.strips.now c.loop-strip.strip-index c.strip-item.result _ _ _ _ _ _ (omega arith) c.loop-strip.invariant part)
