use Rattle.std.proofs.Common.{[], ◌∷◌, arith}
use Rattle.hex.specs.Hex.{encode_lower}
use Rattle.write_buffer.proofs.HexLaws.{lower_each}
use Rattle.write_buffer.proofs.PassingLaws.{breaks_more, passes_each, passes_more, puts_err}
use Rattle.write_buffer.proofs.buffer.WriteBuffer.put_hex.Goals as goal

pub returns-in_err-put_bytes : goal.returns-in_err-put_bytes
returns-in_err-put_bytes g c =
    puts_err c.from_residual.result _ _ _ _ _ _ _ c.from_residual.ensures.0
    (rw (lower_each c.args.bytes.now)
    (breaks_more (λ byte. encode_lower (byte ∷ [])) c.args.bytes.now c.loop-byte.byte-index 0 _ _ _ _ _ _ _ _ (omega arith)
    c.loop-byte.invariant (rw c.encode_hex_pair.ensures at c.in_err-put_bytes.ensures)))

pub loop-byte-preserved : goal.loop-byte-preserved
loop-byte-preserved g c =
    passes_more (λ byte. encode_lower (byte ∷ [])) c.args.bytes.now c.loop-byte.byte-index 0 _ _ _ _ _ _ _ _ _ (omega arith)
    c.loop-byte.invariant (rw c.encode_hex_pair.ensures at c.in_ok-put_bytes.ensures)

pub returns : goal.returns
returns g c = rw (lower_each c.args.bytes.now)
    (passes_each (λ byte. encode_lower (byte ∷ [])) c.args.bytes.now _ _ _ _ _ _ _ (omega arith) c.loop-byte.invariant)
