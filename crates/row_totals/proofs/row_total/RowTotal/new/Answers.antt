use Rattle.std.proofs.Common.{arith, ◌≡◌, ◌-◌, ◌∙◌}
use Rattle.job.specs.Kept.{pipeline_in}
use Rattle.job.specs.Views.{stage_view}
use Rattle.reductions.specs.Bins.{starts}
use Rattle.row_totals.proofs.Summing.{no_rows}
use Rattle.row_totals.proofs.row_total.RowTotal.new.Goals as goal

pub invariant_of-result-clause-bins_are : goal.invariant_of-result-clause-bins_are
invariant_of-result-clause-bins_are c =
    let job = pipeline_in c.args.job.now in
    let s = stage_view c.in-Some.found.now in
    let a = c.in-Some.accumulator.now in
    let is = rw c.in-Some.is at c.find_accumulator_of_row_total.ensures.some in
    let none : c.args.first - c.args.first ≡ 0 = omega arith in
    c.in_ok-create_start_bins.ensures
    ∙ (λ i. starts (c.fold.ensures i) (c.bins.ensures i))
    ∙ no_rows job c.args.stage s a is c.args.first (c.args.first - c.args.first) none
