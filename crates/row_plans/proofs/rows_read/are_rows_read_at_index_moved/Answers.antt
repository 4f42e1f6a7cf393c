use Rattle.std.proofs.Common.{◌≡◌, true, nat_eq, arith, ◌*ℤ◌, FitsSigned, w64, to_z, of_z}
use Rattle.std.proofs.lemmas.Bool.{eqb-true}
use Rattle.std.proofs.lemmas.Int.{ints, fits_signed_mul}
use Rattle.row_plans.proofs.Taking.{index_moves}
use Rattle.row_plans.proofs.rows_read.are_rows_read_at_index_moved.Goals as goal

pub returns : goal.returns
returns c = λ yes r.
    let index = c.args.index.now in
    let within = c.mul.ensures.within in
    let mul : to_z w64 (of_z w64 c.from.result) ≡ index.mul = omega (arith, ints) in
    let made : to_z w64 (of_z w64 c.from-2.result) ≡ c.args.made = omega (arith, ints) in
    let div : to_z w64 (of_z w64 c.from-3.result) ≡ index.div = omega (arith, ints) in
    let moved : to_z w64 (of_z w64 c.from-4.result) ≡ c.args.moved = omega (arith, ints) in
    let left : FitsSigned w64 (index.mul *ℤ c.args.made) = fits_signed_mul w64 index.mul c.args.made 16 2147483648 (omega (arith, ints, within.mul_least, within.mul_most)) (omega (arith, ints)) (omega arith) in
    let right : FitsSigned w64 (index.div *ℤ c.args.moved) = fits_signed_mul w64 index.div c.args.moved 16 2147483648 (omega (arith, ints, within.div_least, within.div_most)) (omega (arith, ints)) (omega arith) in
    let eq : nat_eq (of_z w64 (index.mul *ℤ c.args.made)) (of_z w64 (index.div *ℤ c.args.moved)) ≡ true = rw (mul, made, div, moved) at yes in
    let same : index.mul *ℤ c.args.made ≡ index.div *ℤ c.args.moved =
    let bits = eqb-true (of_z w64 (index.mul *ℤ c.args.made)) (of_z w64 (index.div *ℤ c.args.moved)) eq in
    omega (arith, ints, bits, left, right) in
    index_moves index r c.args.made c.args.moved within.mul_least within.div_least same
