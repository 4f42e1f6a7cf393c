use Rattle.std.proofs.Common.{ap, ◌∙◌}
use Rattle.std.specs.Prelude.{slice_index, unwrap_or}
use Rattle.std.proofs.lemmas.Option.{unwrap_or-slice_get}
use Rattle.pipe_checks.specs.Checking.{ranks_in}
use Rattle.binding.proofs.resolve.JobResolver.resolve_name_to_stage_rank.Goals as goal

pub returns : goal.returns
returns c =
    let ranks = ranks_in c.args.self.now.checked.now in
    c.unwrap_or.ensures
    ∙ (ap (λ o. unwrap_or o 0) c.rank.ensures
    ∙ (unwrap_or-slice_get ranks c.resolve_name_to_stage_number.result 0 ∙ ap (slice_index ranks) c.resolve_name_to_stage_number.ensures))
