use Rattle.std.proofs.Common.{rules, arith, ◌≡◌, ◌<◌, ◌+ℤ◌, ◌*ℤ◌, ◌<ℤ◌, pos, unsigned_abs, w32, to_z, of_z, FitsSigned}
use Rattle.std.proofs.lemmas.Int.{ints, to_z-of_z}
use Rattle.domains.specs.Arithmetic.{floor_rem}
use Rattle.domains.proofs.Indices.{product_fits, sum_fits}
use Rattle.row_kernels.proofs.Dividing.{rest_is, rest_natural}
use Rattle.row_kernels.proofs.divided_columns.compute_gather_remainder_at_column.Goals as goal

both : (c : goal.After-floor_rem) → (floor_rem (c.args.index.now.mul *ℤ c.args.col +ℤ c.args.index.now.add) c.args.index.now.div
    ≡ pos (unsigned_abs (to_z w32 (of_z w32 c.floor_rem.result)))) × (unsigned_abs (to_z w32 (of_z w32 c.floor_rem.result)) < 16)
    × (pos (unsigned_abs (to_z w32 (of_z w32 c.floor_rem.result))) <ℤ c.args.index.now.div)
both c =
    let x = c.args.index.now in
    let index = c.mul.ensures.within in
    let found : FitsSigned w32 c.floor_rem.result = search rules in
    let v : FitsSigned w32 c.args.col = search rules in
    let mul : FitsSigned w32 x.mul = search rules in
    let add : FitsSigned w32 x.add = search rules in
    let div : FitsSigned w32 x.div = search rules in
    let is = rest_is x.mul c.args.col x.add x.div c.floor_rem.result mul v add div (product_fits x c.args.col index c.requires.least
    c.requires.most) (sum_fits x c.args.col index c.requires.least c.requires.most)
    (rw (c.mul.ensures.number, c.add.ensures.number, c.div.ensures.number) at c.floor_rem.ensures) in
    rw (to_z-of_z w32 c.floor_rem.result found)
    (rest_natural (x.mul *ℤ c.args.col +ℤ x.add) x.div c.floor_rem.result (omega (arith, ints, index.div_least)) index.div_most is)

pub returns-clause-rest : goal.returns-clause-rest
returns-clause-rest c = (both c).0

pub returns-clause-most : goal.returns-clause-most
returns-clause-most c = (both c).1

pub returns-clause-below : goal.returns-clause-below
returns-clause-below c = (both c).2
