use Rattle.std.proofs.Common.{length, ap, sym, ◌∙◌}
use Rattle.job.specs.Views.{stage_view}
use Rattle.part_stages.proofs.Pushing.{map_length}
use Rattle.part_stages.proofs.part_ranks.count_stages_of_part_ranks.Goals as goal

pub returns : goal.returns
returns c = sym (map_length stage_view c.stages.result.now) ∙ ap length c.stages.ensures
