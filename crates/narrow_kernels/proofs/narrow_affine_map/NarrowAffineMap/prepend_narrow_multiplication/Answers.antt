use Rattle.std.proofs.Common.{arith, pos, ◌≡◌}
use Rattle.std.proofs.lemmas.Int.{ints}
use Rattle.narrow_kernels.proofs.NarrowAffine.{factor_value_at, factor_fits_at}
use Rattle.narrow_kernels.proofs.narrow_affine_map.NarrowAffineMap.prepend_narrow_multiplication.Goals as goal

pub returns-clause-value : goal.returns-clause-value
returns-clause-value c =
    let is : c.args.self.factor ≡ pos 1 = omega (arith, ints) in
    let factor : c.build_narrow_affine_map.result.factor ≡ c.args.number = omega (arith, ints) in
    let addend : c.build_narrow_affine_map.result.addend ≡ c.args.self.addend = omega (arith, ints) in
    let bits : c.build_narrow_affine_map.result.bits ≡ c.args.self.bits = omega (arith, ints) in
    let offset : c.build_narrow_affine_map.result.offset ≡ c.args.self.offset = omega (arith, ints) in
    λ x. factor_value_at c.args.self.factor c.args.self.addend c.args.self.bits c.args.self.offset c.args.number x
    c.build_narrow_affine_map.result.factor c.build_narrow_affine_map.result.addend c.build_narrow_affine_map.result.bits c.build_narrow_affine_map.result.offset is factor addend bits offset

pub returns-clause-fits : goal.returns-clause-fits
returns-clause-fits c =
    let is : c.args.self.factor ≡ pos 1 = omega (arith, ints) in
    let factor : c.build_narrow_affine_map.result.factor ≡ c.args.number = omega (arith, ints) in
    let addend : c.build_narrow_affine_map.result.addend ≡ c.args.self.addend = omega (arith, ints) in
    let bits : c.build_narrow_affine_map.result.bits ≡ c.args.self.bits = omega (arith, ints) in
    let offset : c.build_narrow_affine_map.result.offset ≡ c.args.self.offset = omega (arith, ints) in
    λ x before. factor_fits_at c.args.self.factor c.args.self.addend c.args.self.bits c.args.self.offset c.args.number x
    c.build_narrow_affine_map.result.factor c.build_narrow_affine_map.result.addend c.build_narrow_affine_map.result.bits c.build_narrow_affine_map.result.offset is factor addend bits offset before
