use Rattle.std.proofs.Common.{refl}
use Rattle.hex.specs.Hex.{encode_with}
use Rattle.write_buffer.proofs.buffer.encode_hex_pair.Goals as goal

pub returns : goal.returns
unfolding encode_with
returns c = rw (c.from.ensures, c.from-2.ensures) (refl)
