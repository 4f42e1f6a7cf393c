use Rattle.std.proofs.Common.{◌+◌, ◌*◌}
use Rattle.job.specs.Views.{formula_view}
use Rattle.narrow_sums.specs.SumRows.{found_sum_formula}
use Rattle.narrow_eval.specs.inside.Sizes.{formula_size}
use Rattle.narrow_eval.proofs.narrow_choosing.+choose_narrow_program.Given as goal

abbrev pub decreases-choose_narrow_program_in_box : goal.decreases-choose_narrow_program_in_box
decreases-choose_narrow_program_in_box l = 8 * formula_size (formula_view l.formula.now) + 4

abbrev pub decreases-choose_narrow_program : goal.decreases-choose_narrow_program
decreases-choose_narrow_program l = 8 * formula_size (formula_view l.formula.now) + 3

abbrev pub decreases-choose_narrow_program_of_sum : goal.decreases-choose_narrow_program_of_sum
decreases-choose_narrow_program_of_sum l = 8 * formula_size (found_sum_formula l.found) + 1

abbrev pub decreases-choose_narrow_program_of_operation : goal.decreases-choose_narrow_program_of_operation
decreases-choose_narrow_program_of_operation l = 8 * formula_size (formula_view l.formula.now)

abbrev pub decreases-choose_narrow_program_if_sum : goal.decreases-choose_narrow_program_if_sum
decreases-choose_narrow_program_if_sum l = 8 * formula_size (formula_view l.formula.now) + 2

abbrev pub decreases-choose_narrow_program_of_unary : goal.decreases-choose_narrow_program_of_unary
decreases-choose_narrow_program_of_unary l = 8 * formula_size (formula_view l.of.now) + 7

abbrev pub decreases-choose_narrow_program_of_binary : goal.decreases-choose_narrow_program_of_binary
decreases-choose_narrow_program_of_binary l = 8 * (formula_size (formula_view l.left.now) + formula_size (formula_view l.right.now)) + 7

abbrev pub decreases-choose_narrow_program_of_ternary : goal.decreases-choose_narrow_program_of_ternary
decreases-choose_narrow_program_of_ternary l =
    8 * (formula_size (formula_view l.first.now) + formula_size (formula_view l.second.now) + formula_size (formula_view l.third.now)) + 7

abbrev pub decreases-choose_narrow_program_of_select : goal.decreases-choose_narrow_program_of_select
decreases-choose_narrow_program_of_select l =
    8 * (formula_size (formula_view l.left.now) + formula_size (formula_view l.right.now) + formula_size (formula_view l.then.now) + formula_size (formula_view l.other.now)) + 7

abbrev pub decreases-choose_narrow_program_of_literal : goal.decreases-choose_narrow_program_of_literal
decreases-choose_narrow_program_of_literal l = 8 * formula_size (formula_view l.of.now) + 7

abbrev pub decreases-choose_narrow_program_of_lookup : goal.decreases-choose_narrow_program_of_lookup
decreases-choose_narrow_program_of_lookup l = 8 * formula_size (formula_view l.index.now) + 7
