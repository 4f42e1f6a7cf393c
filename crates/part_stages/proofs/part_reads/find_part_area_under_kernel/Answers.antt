use Rattle.std.proofs.Common.{rules, ℕ, ℤ, List, length, subst}
use Rattle.job.specs.WellFormed.{IsKernel}
use Rattle.part_stages.specs.inside.Spans.{IsUnderSide}
use Rattle.part_stages.proofs.Spans.{under_kernel}
use Rattle.part_stages.proofs.part_reads.find_part_area_under_kernel.Goals as goal

pub returns : goal.returns
returns c =
    let kernel = c.args.kernel.now in
    let is : IsKernel kernel = search rules in
    under_kernel c.args.area.now (record { rows = c.in_ok-rows.rows; cols = c.in_ok-cols.cols }) kernel is
    (subst (λ (ks : List (List ℤ)). IsUnderSide c.args.area.now.rows (length ks) c.in_ok-rows.rows) c.as_slice.ensures c.in_ok-rows.ensures)
    (subst (λ (n : ℕ). IsUnderSide c.args.area.now.cols n c.in_ok-cols.cols) c.find_width_of_part_kernel.ensures c.in_ok-cols.ensures)
