use Rattle.std.proofs.Common.{arith}
use Rattle.hex.specs.Hex.{encode_lower}
use Rattle.write_buffer.proofs.HexLaws.{lower_all}
use Rattle.write_buffer.proofs.PassingLaws.{breaks_more, passes_each, passes_more, puts_err}
use Rattle.write_buffer.proofs.buffer.WriteBuffer.put_hex_slices.Goals as goal

pub returns-in_err-put_hex : goal.returns-in_err-put_hex
returns-in_err-put_hex g c =
    puts_err c.from_residual.result _ _ _ _ _ _ _ c.from_residual.ensures.0
    (rw (lower_all (λ part. part.now) c.args.parts.now)
    (breaks_more (λ part. encode_lower part.now) c.args.parts.now c.loop-part.part-index _ _ _ _ _ _ _ _ _ (omega arith)
    c.loop-part.invariant c.in_err-put_hex.ensures))

pub loop-part-preserved : goal.loop-part-preserved
loop-part-preserved g c =
    passes_more (λ part. encode_lower part.now) c.args.parts.now c.loop-part.part-index _ _ _ _ _ _ _ _ _ _ (omega arith)
    c.loop-part.invariant c.in_ok-put_hex.ensures

pub returns : goal.returns
returns g c = rw (lower_all (λ part. part.now) c.args.parts.now)
    (passes_each (λ part. encode_lower part.now) c.args.parts.now _ _ _ _ _ _ _ (omega arith) c.loop-part.invariant)
