use Rattle.std.proofs.Common.{arith, ◌≡◌, ◌+◌, ◌-◌, length}
use Rattle.std.proofs.lemmas.Grind.{common_steps}
use Rattle.stencil_kernels.specs.Separable.{IsSeparable}
use Rattle.tile_eval.proofs.Separated.{along_width, separated}
use Rattle.tile_eval.proofs.source_row.SourceRow.try_stencil_down_and_along.Goals as goal

pub returns : goal.returns
returns g c = λ t k h.
    let product : IsSeparable c.args.kernel.now c.borrow_factor_of_each_row.result.now c.borrow_factor_of_each_column-along.result.now =
    rw (c.borrow_factor_of_each_row.ensures, c.borrow_factor_of_each_column-along.ensures) c.requires.separable in
    let width = along_width c.args.kernel.now c.borrow_factor_of_each_row.result.now c.borrow_factor_of_each_column-along.result.now c.requires.kernel product in
    let len : length c.try_weighted_sums_down_columns.new.sums ≡ length c.args.out.now + length c.borrow_factor_of_each_column-along.result.now - 1 =
    grind (arith, common_steps) in
    separated c.args.kernel.now c.borrow_factor_of_each_row.result.now c.borrow_factor_of_each_column-along.result.now c.requires.kernel product
    (g.S.RowSource.samples c.args.self.now.source.now c.args.stage) c.args.self.now.points.row c.args.self.now.points.col
    c.try_weighted_sums_down_columns.new.sums k (length c.args.out.now) _ len h (λ j l. c.if-not-try_weighted_sums_down_columns.ensures t j (omega arith)) (c.write_tap_sums.ensures k h)
