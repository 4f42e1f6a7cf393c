use Rattle.std.proofs.Common.{SFits, arith, get_or, rules, w64}
use Rattle.std.proofs.Math.Facts.{to_z-of_z}
use Rattle.std.specs.Prelude.{pos}
use Rattle.hex.specs.Hex.{encode_lower}
use Rattle.tile_fact.specs.FactFile.{number_bytes}
use Rattle.write_buffer.proofs.PassingLaws.{breaks_more, passes_more, puts_err}
use Rattle.fact_lines.proofs.records.put_hex_fact_bins.Goals as goal

pub returns-in_err-put_hex : goal.returns-in_err-put_hex
returns-in_err-put_hex g c =
    let number = get_or c.args.bins.now c.loop-bin.bin-index (pos 0) in
    let fits : SFits w64 number = search rules in
    let exact = to_z-of_z {w = w64} {z = number} fits in
    puts_err c.from_residual.result _ _ _ _ _ _ _ c.from_residual.ensures.0
    (breaks_more (λ bin. encode_lower (number_bytes w64 bin)) c.args.bins.now c.loop-bin.bin-index (pos 0) _ _ _ _ _ _ _ _
    (omega arith) c.loop-bin.invariant
    (rw (c.to_be_bytes.ensures, exact) at c.in_err-put_hex.ensures))

pub loop-bin-preserved : goal.loop-bin-preserved
loop-bin-preserved g c =
    let number = get_or c.args.bins.now c.loop-bin.bin-index (pos 0) in
    let fits : SFits w64 number = search rules in
    let exact = to_z-of_z {w = w64} {z = number} fits in
    passes_more (λ bin. encode_lower (number_bytes w64 bin)) c.args.bins.now c.loop-bin.bin-index (pos 0) _ _ _ _ _ _ _ _ _
    (omega arith) c.loop-bin.invariant
    (rw (c.to_be_bytes.ensures, exact) at c.in_ok-put_hex.ensures)
