use Rattle.std.proofs.Common.{rules, arith, w32, FitsSigned, ◌<◌, ◌≡◌, ◌+◌, ◌*◌, ◌/◌, ◌+ℤ◌, ℕ, pos, sym, subst}
use Rattle.std.proofs.lemmas.Int.{ints, to_z-of_z}
use Rattle.domains.specs.Index.{index_at}
use Rattle.row_kernels.proofs.Dividing.{columns_divide}
use Rattle.row_kernels.proofs.divided_columns.DividedColumns.from_index.Goals as goal

pub returns : goal.returns
returns c =
    let col : FitsSigned w32 c.args.col = search rules in
    let some : 0 < c.get_gather_divisor.result = omega (arith, ints, c.get_gather_divisor.ensures.number) in
    λ k. subst (λ (d : ℕ). index_at c.args.index.now (c.args.col +ℤ pos k)
    ≡ index_at c.args.index.now c.args.col +ℤ pos ((c.compute_gather_remainder_at_column.result + k * c.get_gather_multiplier.result) / d)) (sym c.new.ensures)
    (columns_divide c.args.index.now c.args.col c.get_gather_multiplier.result c.get_gather_divisor.result c.compute_gather_remainder_at_column.result c.get_gather_multiplier.ensures.number
    c.get_gather_divisor.ensures.number some (rw (to_z-of_z w32 c.args.col col) at c.compute_gather_remainder_at_column.ensures.rest) k)
