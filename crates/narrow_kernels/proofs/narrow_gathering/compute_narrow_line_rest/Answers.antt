use Rattle.std.proofs.Common.{rules, arith, ◌≡◌, ◌+ℤ◌, ◌*ℤ◌, ◌<ℤ◌, pos, unsigned_abs, w32, to_z, of_z, FitsSigned}
use Rattle.std.proofs.lemmas.Int.{ints, to_z-of_z}
use Rattle.domains.specs.Arithmetic.{floor_rem}
use Rattle.domains.proofs.Indices.{product_fits, sum_fits}
use Rattle.row_kernels.proofs.Columns.{gap_found}
use Rattle.row_kernels.proofs.Dividing.{columns_divide, rest_is, rest_natural}
use Rattle.narrow_kernels.proofs.narrow_gathering.compute_narrow_line_rest.Goals as goal

both : (c : goal.After-floor_rem) → (floor_rem (c.args.col.now.mul *ℤ c.args.points.now.col +ℤ c.args.col.now.add) c.args.col.now.div
    ≡ pos (unsigned_abs (to_z w32 (of_z w32 c.floor_rem.result))))
    × (pos (unsigned_abs (to_z w32 (of_z w32 c.floor_rem.result))) <ℤ c.args.col.now.div)
both c =
    let x = c.args.col.now in
    let index = c.mul.ensures.within in
    let found : FitsSigned w32 c.floor_rem.result = search rules in
    let v : FitsSigned w32 c.args.points.now.col = search rules in
    let mul : FitsSigned w32 x.mul = search rules in
    let add : FitsSigned w32 x.add = search rules in
    let div : FitsSigned w32 x.div = search rules in
    let is = rest_is x.mul c.args.points.now.col x.add x.div c.floor_rem.result mul v add div
    (product_fits x c.args.points.now.col index (omega (arith, ints)) (omega (arith, ints)))
    (sum_fits x c.args.points.now.col index (omega (arith, ints)) (omega (arith, ints)))
    (rw (c.mul.ensures.number, c.add.ensures.number, c.div.ensures.number) at c.floor_rem.ensures) in
    let r = rest_natural (x.mul *ℤ c.args.points.now.col +ℤ x.add) x.div c.floor_rem.result (omega (arith, ints, index.div_least)) index.div_most is in
    rw (to_z-of_z w32 c.floor_rem.result found) (r.0, r.2)

pub overflow_add-mul : goal.overflow_add-mul
overflow_add-mul c =
    let x = c.args.col.now in
    let index = c.mul.ensures.within in
    let v : FitsSigned w32 c.args.points.now.col = search rules in
    let mul : FitsSigned w32 c.mul.result = search rules in
    let add : FitsSigned w32 c.add.result = search rules in
    let product : FitsSigned w32 (c.mul.result *ℤ c.args.points.now.col) =
    rw c.mul.ensures.number (product_fits x c.args.points.now.col index (omega (arith, ints)) (omega (arith, ints))) in
    simp to_z-of_z
    (rw (c.mul.ensures.number, c.add.ensures.number) (sum_fits x c.args.points.now.col index (omega (arith, ints)) (omega (arith, ints))))

pub returns-clause-below : goal.returns-clause-below
returns-clause-below c = (both c).1

pub returns-clause-goes : goal.returns-clause-goes
returns-clause-goes c = λ m d k times divides.
    let least = c.mul.ensures.within.div_least in
    gap_found c.args.col.now c.args.points.now.col k _
    (columns_divide c.args.col.now c.args.points.now.col m d _ times divides (omega (arith, ints, least, divides)) (both c).0 k)
