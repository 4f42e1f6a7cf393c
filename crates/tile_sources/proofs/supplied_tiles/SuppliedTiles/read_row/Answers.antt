use Rattle.std.proofs.Common.{rules, arith, ℤ, ◌≡◌, ◌<◌, ◌+ℤ◌, pos, length, w32, FitsSigned, ◌∙◌, to_z, of_z}
use Rattle.std.proofs.lemmas.Int.{ints, to_z-of_z}
use Rattle.tile_sources.specs.KnownTiles.{number_at, IsGivenAt}
use Rattle.tile_sources.proofs.RowsCrossTiles.{row_goes_on, still_most, rest_held}
use Rattle.tile_sources.proofs.supplied_tiles.SuppliedTiles.read_row.Goals as goal

pub compute_coordinate_at_place-requires-clause-least : goal.compute_coordinate_at_place-requires-clause-least
compute_coordinate_at_place-requires-clause-least g c =
    let first : FitsSigned w32 c.args.first = search rules in
    let some : 0 < length c.args.out.now = omega (arith, c.loop-done.auto.out) in
    let there = (c.requires 0 some).0.1.0 in
    let least = c.args.self.now.area.cols.least in
    rw (to_z-of_z w32 c.args.first first) (omega (arith, ints))

pub compute_coordinate_at_place-requires-clause-most : goal.compute_coordinate_at_place-requires-clause-most
compute_coordinate_at_place-requires-clause-most g c =
    let first : FitsSigned w32 c.args.first = search rules in
    let within : c.loop-done.done < length c.args.out.now = omega (arith, c.loop-done.auto.out) in
    let there = (c.requires c.loop-done.done within).0.1.1 in
    let most = c.args.self.now.area.cols.most in
    rw (to_z-of_z w32 c.args.first first) (omega (arith, ints))

pub read_row_up_to_tile_end-done-requires-clause-there : goal.read_row_up_to_tile_end-done-requires-clause-there
read_row_up_to_tile_end-done-requires-clause-there g c =
    let row : FitsSigned w32 c.args.row = search rules in
    let fits : FitsSigned w32 c.compute_coordinate_at_place.result = search rules in
    let column : c.compute_coordinate_at_place.result ≡ c.args.first +ℤ pos c.loop-done.done = search rules in
    rw (to_z-of_z w32 c.args.row row)
    (rest_held c.args.first (to_z w32 (of_z w32 c.compute_coordinate_at_place.result)) c.loop-done.done c.loop-done.out c.loop-done.invariant.most
    (to_z-of_z w32 c.compute_coordinate_at_place.result fits ∙ column)
    (λ (z : ℤ). IsGivenAt (g.K.TileSource.given c.args.self.now.known.now) c.args.self.now.stage c.args.self.now.grid c.args.row z)
    (length c.args.out.now) c.loop-done.auto.out c.requires)

pub loop-done-preserved : goal.loop-done-preserved
loop-done-preserved g c =
    let fits : FitsSigned w32 c.compute_coordinate_at_place.result = search rules in
    let column : to_z w32 (of_z w32 c.compute_coordinate_at_place.result) ≡ to_z w32 (of_z w32 c.args.first) +ℤ pos c.loop-done.done =
    to_z-of_z w32 c.compute_coordinate_at_place.result fits ∙ c.compute_coordinate_at_place.ensures in
    record {
      most =
          still_most (to_z w32 (of_z w32 c.args.first)) (to_z w32 (of_z w32 c.compute_coordinate_at_place.result)) c.loop-done.done c.loop-done.out
          c.loop-done.invariant.most column c.read_row_up_to_tile_end-done.new.out c.read_row_up_to_tile_end-done.result c.read_row_up_to_tile_end-done.auto.out c.read_row_up_to_tile_end-done.ensures.most;
      numbers =
          row_goes_on (to_z w32 (of_z w32 c.args.first)) (to_z w32 (of_z w32 c.compute_coordinate_at_place.result)) c.loop-done.done c.loop-done.out
          c.loop-done.invariant.most column c.read_row_up_to_tile_end-done.new.out c.read_row_up_to_tile_end-done.result c.read_row_up_to_tile_end-done.auto.out c.read_row_up_to_tile_end-done.ensures.most
          (number_at (g.K.TileSource.given c.args.self.now.known.now) c.args.self.now.stage c.args.self.now.grid
          (to_z w32 (of_z w32 c.args.row))) c.loop-done.invariant.numbers c.read_row_up_to_tile_end-done.ensures.numbers;
    }

pub returns : goal.returns
returns g c = λ k h.
    let past = c.loop-done-test.false in
    let row : FitsSigned w32 c.args.row = search rules in
    let first : FitsSigned w32 c.args.first = search rules in
    let f : ℤ → ℤ → ℤ = number_at (g.K.TileSource.given c.args.self.now.known.now) c.args.self.now.stage c.args.self.now.grid in
    c.loop-done.invariant.numbers k (omega (arith, c.loop-done.auto.out))
    ∙ (λ i. f (to_z-of_z w32 c.args.row row i) (to_z-of_z w32 c.args.first first i +ℤ pos k))
