use Rattle.std.proofs.Common.{sym, ap, ◌∙◌, subst, Bor}
use Rattle.std.specs.Option.{option_map}
use Rattle.job.specs.declared.stage.Stage.{Stage as KeptStage}
use Rattle.job.specs.Views.{stage_view}
use Rattle.tile_boxes.specs.Walks.{InDomainRanges}
use Rattle.tile_boxes.proofs.target.BoxWalk.find_stage_box.Goals as goal

pub returns-in-Some-Some-Some-clause-near : goal.returns-in-Some-Some-Some-clause-near
returns-in-Some-Some-Some-clause-near c =
    let s = stage_view c.in-Some-Some-Some.stage.now in
    let stage = c.args.self.now.job.now.well.stages c.args.number s
    (sym c.stage.ensures ∙ ap (option_map (λ (r : Bor KeptStage). stage_view r.now)) c.in-Some-Some-Some.is-0) in
    c.intersect_boxes.ensures.near (subst InDomainRanges (sym c.domain.ensures) (record { rows = stage.rows; cols = stage.cols }))
