use Rattle.std.proofs.Common.{ℤ, ◌+ℤ◌, w16, ap, ◌∙◌}
use Rattle.std.specs.Int.{int_wrap}
use Rattle.row_loops.specs.Rows.{at}
use Rattle.narrow_sums.proofs.NarrowAddends.{once_added}
use Rattle.narrow_sums.proofs.writing.add_line_of_narrow_sum_center.Goals as goal

pub returns : goal.returns
returns c = λ k l s e. c.add_narrow_tap_sums.ensures k l s e ∙ ap (λ (z : ℤ). int_wrap w16 (s +ℤ z)) (once_added (at c.args.line.now k))
