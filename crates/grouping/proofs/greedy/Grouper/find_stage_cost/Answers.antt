use Rattle.std.proofs.Common.{ap, sym, ◌∙◌}
use Rattle.std.specs.Prelude.{Some}
use Rattle.job.specs.Kept.{pipeline_in}
use Rattle.grouping.specs.inside.Trials.{grouping_of}
use Rattle.grouping.proofs.CostsAreKept.{kept_is_cost}
use Rattle.grouping.proofs.greedy.Grouper.find_stage_cost.Goals as goal

pub returns-in-Some : goal.returns-in-Some
returns-in-Some c =
    let self = c.args.self.now in
    ap Some c.find_kept_cost_of_stored_stage.ensures
    ∙ kept_is_cost (pipeline_in c.args.job.now) (grouping_of self) self.standings.items c.args.number c.in-Some.field-0 c.requires.stand
    (sym c.inlined.ensures ∙ c.if-inlined.false) (sym c.grid.ensures ∙ c.in-Some.is)
