use Rattle.tile_boxes.proofs.AreasMeet.{near_subarea}
use Rattle.tile_boxes.proofs.target.BoxWalk.find_stage_region.Goals as goal

pub returns-then-number-self-clause-near : goal.returns-then-number-self-clause-near
returns-then-number-self-clause-near c =
    let target = c.requires.target in
    let stage = c.args.self.now.job.now.well.stages c.args.self.now.stage target.owner target.there in
    near_subarea c.args.self.now.region target.owner.domain (record { rows = stage.rows; cols = stage.cols }) target.area target.inside
