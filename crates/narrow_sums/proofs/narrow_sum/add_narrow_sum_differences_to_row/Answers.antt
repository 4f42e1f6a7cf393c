use Rattle.std.proofs.Common.{subst, Bool}
use Rattle.row_loops.specs.Rows.{at}
use Rattle.narrow_sums.specs.NarrowSums.{IsRest}
use Rattle.narrow_sums.proofs.NarrowAddends.{written_from_nothing}
use Rattle.narrow_sums.proofs.narrow_sum.add_narrow_sum_differences_to_row.Goals as goal

pub returns-else-is_written : goal.returns-else-is_written
returns-else-is_written c = λ k l rest h.
    written_from_nothing rest _ _ (subst (λ (b : Bool). IsRest b (at c.args.out.now k) rest) c.if-is_written.false h)
    (c.write_narrow_difference_sums.ensures k l)
