use Rattle.std.proofs.Common.{rules, arith, ◌≡◌, ◌<◌, ◌+◌, pos, ◌≤ℤ◌, ◌*◌, unsigned_abs, ap}
use Rattle.std.proofs.lemmas.Int.{ints}
use Rattle.plane_samples.specs.Samples.{count_in}
use Rattle.tile_sources.proofs.PlaneSamples.{row_below, sample_along}
use Rattle.tile_sources.proofs.PlanesAreWide.{some_then}
use Rattle.tile_sources.proofs.samples.borrow_plane_row_bytes_for_tile.Goals as goal

pub borrow_adjacent_bytes_for_tile-requires : goal.borrow_adjacent_bytes_for_tile-requires
borrow_adjacent_bytes_for_tile-requires c =
    let some : 0 < c.args.count = search rules in
    let place : c.locate_plane_sample_for_tile-place.result ≡ unsigned_abs c.args.row * c.args.picture.now.cols + unsigned_abs c.args.first = search rules in
    omega (
      arith,
      row_below c.args.picture.now c.args.row c.args.first c.args.count c.locate_plane_sample_for_tile-place.result place some c.requires.there,
      c.borrow_plane_samples_for_tile.ensures.count,
    )

pub returns-clause-samples : goal.returns-clause-samples
returns-clause-samples c = some_then c.borrow_adjacent_bytes_for_tile.result c.borrow_adjacent_bytes_for_tile.ensures.samples (λ line is k h.
    let some : 0 < c.args.count = omega arith in
    let from = (c.requires.there 0 some).1.0 in
    let start : pos 0 ≤ℤ c.args.first = omega (arith, ints) in
    let place : c.locate_plane_sample_for_tile-place.result ≡ unsigned_abs c.args.row * c.args.picture.now.cols + unsigned_abs c.args.first = search rules in
    let there : c.locate_plane_sample_for_tile-place.result + k < count_in c.borrow_plane_samples_for_tile.result = omega (
      arith,
      row_below c.args.picture.now c.args.row c.args.first c.args.count c.locate_plane_sample_for_tile-place.result place some c.requires.there,
      c.borrow_plane_samples_for_tile.ensures.count,
    ) in
    sample_along c.args.picture.now c.args.plane c.args.row c.args.first c.locate_plane_sample_for_tile-place.result k c.borrow_plane_samples_for_tile.result _
    c.borrow_plane_samples_for_tile.ensures.samples there place start (ap pos (is k h)))
