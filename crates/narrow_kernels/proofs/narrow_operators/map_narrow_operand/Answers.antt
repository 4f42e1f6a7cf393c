use Rattle.std.proofs.Common.{arith}
use Rattle.narrow_kernels.proofs.narrow_operators.map_narrow_operand.Goals as goal

pub write_narrow_tree-requires : goal.write_narrow_tree-requires
write_narrow_tree-requires g c =
    let fits = rw c.in-Line.is at c.requires.fits in
    let serves = rw c.in-Line.is at c.requires.of in
    λ k h. (omega (arith, serves, h), fits k h)

pub write_narrow_tree-requires-in-Written : goal.write_narrow_tree-requires-in-Written
write_narrow_tree-requires-in-Written g c = let fits = rw c.in-Written.is at c.requires.fits in λ k h. (tt, fits k h)
