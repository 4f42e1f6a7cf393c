use Rattle.std.proofs.Common.{arith, ◌≡◌, ◌≤◌, ◌+◌, ◌*◌, ◌<◌, ap, sym}
use Rattle.std.specs.Option.{option_map_or}
use Rattle.job.specs.Views.{formula_view}
use Rattle.narrow_sums.specs.SumRows.{found_sum_formula, joined_sum_formula, sum_row_formula}
use Rattle.narrow_eval.specs.inside.Sizes.{formula_size}
use Rattle.narrow_eval.proofs.Sizes.{start_less}
use Rattle.narrow_eval.proofs.narrow_choosing.+choose_narrow_program.Goals as goal

pub choose_narrow_program_of_sum-choose_narrow_program_of_operation-requires : goal.choose_narrow_program_of_sum-choose_narrow_program_of_operation-requires
choose_narrow_program_of_sum-choose_narrow_program_of_operation-requires t c =
    let row = c.args.found.row in
    let start = formula_view c.in-Some.start.now in
    let here : 8 * formula_size (found_sum_formula c.args.found) + 1 ≡ t = c.decreases in
    let is : formula_size (found_sum_formula c.args.found) ≡ formula_size (joined_sum_formula start row) =
    ap (λ o. formula_size (option_map_or (λ f. joined_sum_formula (formula_view f.now) row) o (sum_row_formula row))) c.in-Some.is in
    let less : formula_size start ≤ formula_size (joined_sum_formula start row) = start_less start row in
    let below : 8 * formula_size start < t = omega (arith, here, is, less) in
    (below, tt)
