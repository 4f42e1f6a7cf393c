use Rattle.std.proofs.Common.{arith}
use Rattle.tile_fact.proofs.laws.slices_are_fact_file_bytes.Goals as goal

pub returns : goal.returns
returns c = λ i. omega (arith, c.type_inv.bytes i)
