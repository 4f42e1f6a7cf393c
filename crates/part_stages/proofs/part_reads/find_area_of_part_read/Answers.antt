use Rattle.std.proofs.Common.{rules, ◌≡◌, Some, ap, sym, subst}
use Rattle.std.specs.Prelude.{slice_get}
use Rattle.domains.specs.declared.area.Area.{Area}
use Rattle.job.specs.Kept.{pipeline_in}
use Rattle.job.specs.Pipeline.{Stage}
use Rattle.job.specs.ReadViews.{read_view}
use Rattle.job.specs.Reads.{Read}
use Rattle.job.specs.Views.{stage_view}
use Rattle.job.specs.WellFormed.{IsValued}
use Rattle.part_stages.specs.Parts.{IsReadArea}
use Rattle.part_stages.specs.inside.Spans.{IsUnderIndices, IsUnderKernel}
use Rattle.part_stages.proofs.Areas.{area_then, point_area, window_area}
use Rattle.part_stages.proofs.part_reads.find_area_of_part_read.Goals as goal

pub returns-in-Point : goal.returns-in-Point
returns-in-Point c =
    let job = pipeline_in c.args.job.now in
    let from : Stage = stage_view c.in_ok-from.from.now in
    let n = c.in-Point in
    let there : slice_get job.stages n.field-0 ≡ Some from = search rules in
    let valued : IsValued from.body = search rules in
    area_then c.find_part_area_under_indices.result c.find_part_area_under_indices.ensures (λ area is.
    subst (λ (x : Read). IsReadArea job x area) (sym (ap read_view n.is))
    (point_area job n.field-0 from there valued n.row n.column area
    (subst (λ (a : Area). IsUnderIndices a n.row n.column area) c.domain.ensures is)))

pub returns-in-Window : goal.returns-in-Window
returns-in-Window c =
    let job = pipeline_in c.args.job.now in
    let from : Stage = stage_view c.in_ok-from.from.now in
    let n = c.in-Window in
    let there : slice_get job.stages n.field-0 ≡ Some from = search rules in
    let valued : IsValued from.body = search rules in
    area_then c.find_part_area_under_kernel.result c.find_part_area_under_kernel.ensures (λ area is.
    subst (λ (x : Read). IsReadArea job x area) (sym (ap read_view n.is))
    (window_area job n.field-0 from there valued n.kernel area
    (subst (λ (a : Area). IsUnderKernel a n.kernel area) c.domain-in-Window.ensures is)))
