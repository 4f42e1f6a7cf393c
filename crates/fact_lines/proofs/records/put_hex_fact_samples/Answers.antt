use Rattle.std.proofs.Common.{SFits, arith, get_or, rules, w32}
use Rattle.std.proofs.Math.Facts.{to_z-of_z}
use Rattle.std.specs.Prelude.{pos}
use Rattle.hex.specs.Hex.{encode_lower}
use Rattle.tile_fact.specs.FactFile.{number_bytes}
use Rattle.write_buffer.proofs.PassingLaws.{breaks_more, passes_more, puts_err}
use Rattle.fact_lines.proofs.records.put_hex_fact_samples.Goals as goal

pub returns-in_err-put_hex : goal.returns-in_err-put_hex
returns-in_err-put_hex g c =
    let number = get_or c.args.samples.now c.loop-sample.sample-index (pos 0) in
    let fits : SFits w32 number = search rules in
    let exact = to_z-of_z {w = w32} {z = number} fits in
    puts_err c.from_residual.result _ _ _ _ _ _ _ c.from_residual.ensures.0
    (breaks_more (λ sample. encode_lower (number_bytes w32 sample)) c.args.samples.now c.loop-sample.sample-index (pos 0) _ _ _ _ _
    _ _ _ (omega arith) c.loop-sample.invariant
    (rw (c.to_be_bytes.ensures, exact) at c.in_err-put_hex.ensures))

pub loop-sample-preserved : goal.loop-sample-preserved
loop-sample-preserved g c =
    let number = get_or c.args.samples.now c.loop-sample.sample-index (pos 0) in
    let fits : SFits w32 number = search rules in
    let exact = to_z-of_z {w = w32} {z = number} fits in
    passes_more (λ sample. encode_lower (number_bytes w32 sample)) c.args.samples.now c.loop-sample.sample-index (pos 0) _ _ _ _ _ _
    _ _ _ (omega arith) c.loop-sample.invariant
    (rw (c.to_be_bytes.ensures, exact) at c.in_ok-put_hex.ensures)
