use Rattle.std.proofs.Common.{◌∷◌, List, map, take, subst, sym}
use Rattle.job.specs.Kept.{pipeline_in}
use Rattle.job.specs.ReadViews.{read_view}
use Rattle.job.specs.Reads.{Read}
use Rattle.part_stages.specs.Parts.{IsPartArea}
use Rattle.part_stages.proofs.Areas.{first_area, one_area_more, reads_more}
use Rattle.part_stages.proofs.part_areas.find_common_area_of_part_reads.Goals as goal

pub loop-read-init : goal.loop-read-init
loop-read-init c = first_area (pipeline_in c.args.job.now) (read_view c.args.first.now) c.in_ok-area.area c.in_ok-area.ensures

pub loop-read-preserved : goal.loop-read-preserved
loop-read-preserved c =
    let job = pipeline_in c.args.job.now in
    let first = read_view c.args.first.now in
    let before = map read_view (take c.loop-read.read-index c.args.rest.now) in
    subst (λ (reads : List Read). IsPartArea job (first ∷ reads) c.in_ok-area-2.area)
    (sym (reads_more read_view c.args.rest.now c.loop-read.read-index c.read-item.result c.loop-read-test.true c.read-item.is))
    (one_area_more job (first ∷ before) (read_view c.read-item.result) c.loop-read.area c.in_ok-other.other c.in_ok-area-2.area
    c.loop-read.invariant c.in_ok-other.ensures c.in_ok-area-2.ensures.some)
