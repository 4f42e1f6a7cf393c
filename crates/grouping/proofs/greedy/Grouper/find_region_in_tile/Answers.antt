use Rattle.std.proofs.Common.{◌≡◌, nat_eq, false, ℕ, List, Bool, arith, sym, ap, ◌∙◌}
use Rattle.std.proofs.lemmas.Bool.Decides.{nat_tests}
use Rattle.job.specs.Kept.{pipeline_in}
use Rattle.tile_boxes.specs.Targets.{region, target_over}
use Rattle.grouping.specs.inside.Trials.{grouping_of}
use Rattle.tile_boxes.specs.Walks.{target_of}
use Rattle.tile_boxes.proofs.AreasMeet.{near_subarea}
use Rattle.grouping.proofs.KeptIsBox.{kept_is_region, kept_is_near}
use Rattle.grouping.proofs.greedy.Grouper.find_region_in_tile.Goals as goal
use Rattle.grouping.proofs.greedy.Grouper.find_region_in_tile.Goals.{After-find_kept_box}

not_equal : (r h : ℕ) → (r ≡ h → ⊥) → nat_eq r h ≡ false
not_equal r h other = grind (arith, nat_tests)

is_region : (c : After-find_kept_box) → c.find_kept_box.result ≡ region (target_of c.args.walk.now) c.args.reader
is_region c =
    let job = pipeline_in c.args.walk.now.job.now in
    c.find_kept_box.ensures
    ∙ kept_is_region job (grouping_of c.args.self.now) c.args.self.now.standings.items c.args.walk.now.stage c.args.reader c.args.place
    c.args.walk.now.region c.requires.walk.stand c.requires.there c.requires.group
    (not_equal c.args.reader c.args.walk.now.stage c.if-reader-walk.false) c.requires.walk.tile
    ∙ ap (λ (inlining : List Bool). region (target_over job inlining c.args.walk.now.stage c.args.walk.now.region) c.args.reader)
    (sym c.requires.walk.inlining)

pub returns-then-reader-walk-clause-near : goal.returns-then-reader-walk-clause-near
returns-then-reader-walk-clause-near c =
    let target = c.requires.walk.target in
    let stage = c.args.walk.now.job.now.well.stages c.args.walk.now.stage target.owner target.there in
    near_subarea c.args.walk.now.region target.owner.domain (record { rows = stage.rows; cols = stage.cols }) target.area target.inside

pub returns-else-reader-walk-clause-is : goal.returns-else-reader-walk-clause-is
returns-else-reader-walk-clause-is c = is_region c

pub returns-else-reader-walk-clause-near : goal.returns-else-reader-walk-clause-near
returns-else-reader-walk-clause-near c =
    kept_is_near (target_of c.args.walk.now) c.args.reader c.find_kept_box.result c.args.walk.now.job.now.well c.requires.walk.target
    (is_region c)
