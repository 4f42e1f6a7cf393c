use Rattle.std.proofs.Common.{rules, arith, ◌≡◌, ◌<◌, ◌+◌, pos, ◌≤ℤ◌, ◌*◌, unsigned_abs, length}
use Rattle.std.proofs.lemmas.Int.{ints}
use Rattle.plane_samples.specs.Samples.{count_in}
use Rattle.tile_sources.proofs.PlaneSamples.{row_below, sample_along}
use Rattle.tile_sources.proofs.samples.read_plane_row_for_tile.Goals as goal

pub convert_samples_to_row-requires : goal.convert_samples_to_row-requires
convert_samples_to_row-requires c =
    let some : 0 < length c.args.out.now = search rules in
    let place : c.locate_plane_sample_for_tile-place.result ≡ unsigned_abs c.args.row * c.args.picture.now.cols + unsigned_abs c.args.first = search rules in
    omega (
      arith,
      row_below c.args.picture.now c.args.row c.args.first (length c.args.out.now) c.locate_plane_sample_for_tile-place.result place some
          c.requires.there,
      c.borrow_plane_samples_for_tile.ensures.count,
    )

pub returns-then-not-is_empty : goal.returns-then-not-is_empty
returns-then-not-is_empty c = λ k h.
    let some : 0 < length c.args.out.now = omega arith in
    let from = (c.requires.there 0 some).1.0 in
    let start : pos 0 ≤ℤ c.args.first = omega (arith, ints) in
    let place : c.locate_plane_sample_for_tile-place.result ≡ unsigned_abs c.args.row * c.args.picture.now.cols + unsigned_abs c.args.first = search rules in
    let there : c.locate_plane_sample_for_tile-place.result + k < count_in c.borrow_plane_samples_for_tile.result = omega (
      arith,
      row_below c.args.picture.now c.args.row c.args.first (length c.args.out.now) c.locate_plane_sample_for_tile-place.result place some
          c.requires.there,
      c.borrow_plane_samples_for_tile.ensures.count,
    ) in
    sample_along c.args.picture.now c.args.plane c.args.row c.args.first c.locate_plane_sample_for_tile-place.result k c.borrow_plane_samples_for_tile.result _
    c.borrow_plane_samples_for_tile.ensures.samples there place start (c.convert_samples_to_row.ensures k h)
