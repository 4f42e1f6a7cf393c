use Rattle.std.proofs.Common.{arith, pos, ◌≡◌, ◌+ℤ◌}
use Rattle.std.proofs.lemmas.Int.{ints}
use Rattle.narrow_kernels.proofs.NarrowAffine.{offset_value_at, offset_fits_at, addend_value_at, addend_fits_at}
use Rattle.narrow_kernels.proofs.narrow_affine_map.NarrowAffineMap.prepend_narrow_addition.Goals as goal

pub returns-then-self-eq0-2-clause-value : goal.returns-then-self-eq0-2-clause-value
returns-then-self-eq0-2-clause-value c =
    let is : c.args.self.factor ≡ pos 1 = omega (arith, ints) in
    let none : c.args.self.addend ≡ pos 0 = omega (arith, ints) in
    let zero : c.args.self.bits ≡ 0 = omega (arith, ints) in
    let factor : c.build_narrow_affine_map.result.factor ≡ pos 1 = omega (arith, ints) in
    let addend : c.build_narrow_affine_map.result.addend ≡ pos 0 = omega (arith, ints) in
    let bits : c.build_narrow_affine_map.result.bits ≡ 0 = omega (arith, ints) in
    let offset : c.build_narrow_affine_map.result.offset ≡ c.args.self.offset +ℤ c.args.number = omega (arith, ints) in
    λ x. offset_value_at c.args.self.factor c.args.self.addend c.args.self.bits c.args.self.offset c.args.number x
    c.build_narrow_affine_map.result.factor c.build_narrow_affine_map.result.addend c.build_narrow_affine_map.result.bits c.build_narrow_affine_map.result.offset is none zero factor addend bits offset

pub returns-then-self-eq0-2-clause-fits : goal.returns-then-self-eq0-2-clause-fits
returns-then-self-eq0-2-clause-fits c =
    let is : c.args.self.factor ≡ pos 1 = omega (arith, ints) in
    let none : c.args.self.addend ≡ pos 0 = omega (arith, ints) in
    let zero : c.args.self.bits ≡ 0 = omega (arith, ints) in
    let factor : c.build_narrow_affine_map.result.factor ≡ pos 1 = omega (arith, ints) in
    let addend : c.build_narrow_affine_map.result.addend ≡ pos 0 = omega (arith, ints) in
    let bits : c.build_narrow_affine_map.result.bits ≡ 0 = omega (arith, ints) in
    let offset : c.build_narrow_affine_map.result.offset ≡ c.args.self.offset +ℤ c.args.number = omega (arith, ints) in
    λ x h before. offset_fits_at c.args.self.factor c.args.self.addend c.args.self.bits c.args.self.offset c.args.number x
    c.build_narrow_affine_map.result.factor c.build_narrow_affine_map.result.addend c.build_narrow_affine_map.result.bits c.build_narrow_affine_map.result.offset is none zero factor addend bits offset h before

pub returns-clause-value : goal.returns-clause-value
returns-clause-value c =
    let is : c.args.self.factor ≡ pos 1 = omega (arith, ints) in
    let factor : c.build_narrow_affine_map-2.result.factor ≡ pos 1 = omega (arith, ints) in
    let addend : c.build_narrow_affine_map-2.result.addend ≡ c.args.self.addend +ℤ c.args.number = omega (arith, ints) in
    let bits : c.build_narrow_affine_map-2.result.bits ≡ c.args.self.bits = omega (arith, ints) in
    let offset : c.build_narrow_affine_map-2.result.offset ≡ c.args.self.offset = omega (arith, ints) in
    λ x. addend_value_at c.args.self.factor c.args.self.addend c.args.self.bits c.args.self.offset c.args.number x
    c.build_narrow_affine_map-2.result.factor c.build_narrow_affine_map-2.result.addend c.build_narrow_affine_map-2.result.bits c.build_narrow_affine_map-2.result.offset is factor addend bits offset

pub returns-clause-fits : goal.returns-clause-fits
returns-clause-fits c =
    let is : c.args.self.factor ≡ pos 1 = omega (arith, ints) in
    let factor : c.build_narrow_affine_map-2.result.factor ≡ pos 1 = omega (arith, ints) in
    let addend : c.build_narrow_affine_map-2.result.addend ≡ c.args.self.addend +ℤ c.args.number = omega (arith, ints) in
    let bits : c.build_narrow_affine_map-2.result.bits ≡ c.args.self.bits = omega (arith, ints) in
    let offset : c.build_narrow_affine_map-2.result.offset ≡ c.args.self.offset = omega (arith, ints) in
    λ x h before. addend_fits_at c.args.self.factor c.args.self.addend c.args.self.bits c.args.self.offset c.args.number x
    c.build_narrow_affine_map-2.result.factor c.build_narrow_affine_map-2.result.addend c.build_narrow_affine_map-2.result.bits c.build_narrow_affine_map-2.result.offset is factor addend bits offset h before
