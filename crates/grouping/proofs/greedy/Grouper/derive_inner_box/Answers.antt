use Rattle.std.proofs.Common.{List, ◌≡◌, Some, ap, sym, ◌∙◌}
use Rattle.std.specs.Prelude.{slice_get}
use Rattle.domains.specs.declared.area.Area.{Area}
use Rattle.job.specs.Kept.{pipeline_in}
use Rattle.grouping.specs.declared.between.NumberedTile.{NumberedTile}
use Rattle.grouping.specs.inside.Between.{IsNumberedTile}
use Rattle.grouping.proofs.KeptBetween.{kept_between}
use Rattle.grouping.proofs.greedy.Grouper.derive_inner_box.Goals as goal

pub returns-then-has_reader_regions_of_left_and_top : goal.returns-then-has_reader_regions_of_left_and_top
returns-then-has_reader_regions_of_left_and_top c =
    let job = pipeline_in c.args.job.now in
    let h = c.args.candidate.now.group in
    let left = c.in_ok-left.left in
    let top = c.in_ok-top.top in
    let at : (spot : NumberedTile) → slice_get c.args.tiles.now spot.place ≡ Some spot.tile → IsNumberedTile job h spot =
    λ spot is. ap (λ (tiles : List Area). slice_get tiles spot.place) (sym c.requires.tiles) ∙ is in
    let at_left = at left (ap (slice_get c.args.tiles.now) c.in_ok-left.ensures.place ∙ c.in_ok-left.ensures.tile) in
    let at_top = at top (ap (slice_get c.args.tiles.now) c.in_ok-top.ensures.place ∙ c.in_ok-top.ensures.tile) in
    kept_between job c.args.self.now c.args.candidate.now c.args.here.now left top c.in_ok-one.one c.in_ok-other.other c.args.job.now.well
    c.requires.stand c.requires.candidate c.requires.here at_left at_top
    (c.requires.wholes left c.in_ok-one.one at_left c.in_ok-one.ensures)
    (c.requires.wholes top c.in_ok-other.other at_top c.in_ok-other.ensures) (c.has_reader_regions_of_left_and_top.ensures c.if-has_reader_regions_of_left_and_top.true)
