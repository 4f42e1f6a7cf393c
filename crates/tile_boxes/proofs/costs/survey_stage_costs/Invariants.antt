use Rattle.std.proofs.Common.{◌≡◌, map}
use Rattle.std.specs.List.{range_with_len}
use Rattle.job.specs.Kept.{pipeline_in}
use Rattle.tile_boxes.specs.Costs.{cost}
use Rattle.tile_boxes.specs.Tallies.{all_stages_fit}
use Rattle.tile_boxes.proofs.costs.survey_stage_costs.Given as goal

abbrev pub invariant-loop-number : goal.invariant-loop-number
invariant-loop-number l =
    (l.survey.costs.items ≡ map (cost (pipeline_in l.job) l.inlining) (range_with_len 0 l.number))
    × (l.survey.fits ≡ all_stages_fit (pipeline_in l.job) l.inlining (range_with_len 0 l.number))
