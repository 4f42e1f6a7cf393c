use Rattle.std.proofs.Common.{sym, ap, ◌∙◌, subst, Bor}
use Rattle.std.specs.Prelude.{All}
use Rattle.std.specs.Option.{option_map}
use Rattle.job.specs.declared.stage.Stage.{Stage as KeptStage}
use Rattle.job.specs.declared.stage.Body.{Body as KeptBody}
use Rattle.job.specs.Reads.{formulas_of}
use Rattle.job.specs.Views.{stage_view, body_view}
use Rattle.job.specs.WellFormed.{IsFormula}
use Rattle.tile_boxes.proofs.target.BoxWalk.demand_stage_reads.Goals as goal

pub demand_body_reads-requires-clause-formulas : goal.demand_body_reads-requires-clause-formulas
demand_body_reads-requires-clause-formulas c =
    let s = stage_view c.in-Some-stage.stage.now in
    let stage = c.args.self.now.job.now.well.stages c.args.number s
    (sym c.stage.ensures ∙ ap (option_map (λ (r : Bor KeptStage). stage_view r.now)) c.in-Some-stage.is) in
    subst (λ (b : KeptBody). All IsFormula (formulas_of (body_view b))) (sym c.body.ensures) stage.formulas
