use Rattle.std.proofs.Common.{length, slice_index_or, arith, ap, ◌∙◌}
use Rattle.std.specs.Prelude.{None}
use Rattle.std.proofs.lemmas.List.FromFn.{get_or-map-range_with_len}
use Rattle.job.specs.Kept.{pipeline_in}
use Rattle.tile_boxes.specs.Costs.{cost}
use Rattle.commands.proofs.plan_lines.find_plan_line_cost_of_stage.Goals as goal

pub returns : goal.returns
returns c =
    let job = pipeline_in c.args.job.now in
    let n = c.args.number in
    c.cost.ensures
    ∙ ap (λ costs. slice_index_or costs n None) c.requires.schedule.costs
    ∙ get_or-map-range_with_len (cost job c.args.schedule.now.inlining) 0 (length job.stages) n n None c.requires.there (omega arith)
