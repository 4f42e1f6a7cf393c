use Rattle.std.proofs.Common.{rules, arith, ℤ, ◌+ℤ◌, pos, length, w32, FitsSigned, ◌∙◌, to_z, of_z}
use Rattle.std.proofs.lemmas.Int.{to_z-of_z}
use Rattle.domains.specs.Index.{index_at}
use Rattle.tile_sources.specs.KnownTiles.{number_at, IsGivenAt}
use Rattle.tile_sources.proofs.RowsCrossTiles.{row_goes_on, still_most, rest_held}
use Rattle.tile_sources.proofs.supplied_tiles.SuppliedTiles.gather_row.Goals as goal

pub gather_row_up_to_tile_end-done-requires-clause-there : goal.gather_row_up_to_tile_end-done-requires-clause-there
gather_row_up_to_tile_end-done-requires-clause-there g c =
    let row : FitsSigned w32 c.args.row = search rules in
    rw (to_z-of_z w32 c.args.row row)
    (rest_held c.args.points.now.col c.slice_points.result.col c.loop-done.done c.loop-done.out c.loop-done.invariant.most c.slice_points.ensures.col
    (λ (z : ℤ). IsGivenAt (g.K.TileSource.given c.args.self.now.known.now) c.args.self.now.stage c.args.self.now.grid c.args.row
    (index_at c.args.col.now z)) (length c.args.out.now) c.loop-done.auto.out c.requires.there)

pub loop-done-preserved : goal.loop-done-preserved
loop-done-preserved g c = record {
  most =
      still_most c.args.points.now.col c.slice_points.result.col c.loop-done.done c.loop-done.out c.loop-done.invariant.most c.slice_points.ensures.col
      c.gather_row_up_to_tile_end-done.new.out c.gather_row_up_to_tile_end-done.result c.gather_row_up_to_tile_end-done.auto.out c.gather_row_up_to_tile_end-done.ensures.most;
  numbers =
      row_goes_on c.args.points.now.col c.slice_points.result.col c.loop-done.done c.loop-done.out c.loop-done.invariant.most c.slice_points.ensures.col
      c.gather_row_up_to_tile_end-done.new.out c.gather_row_up_to_tile_end-done.result c.gather_row_up_to_tile_end-done.auto.out c.gather_row_up_to_tile_end-done.ensures.most
      (λ (z : ℤ). number_at (g.K.TileSource.given c.args.self.now.known.now) c.args.self.now.stage c.args.self.now.grid
      (to_z w32 (of_z w32 c.args.row)) (index_at c.args.col.now z)) c.loop-done.invariant.numbers c.gather_row_up_to_tile_end-done.ensures.numbers;
}

pub returns : goal.returns
returns g c = λ k h.
    let past = c.loop-done-test.false in
    let row : FitsSigned w32 c.args.row = search rules in
    let f : ℤ → ℤ → ℤ = number_at (g.K.TileSource.given c.args.self.now.known.now) c.args.self.now.stage c.args.self.now.grid in
    c.loop-done.invariant.numbers k (omega (arith, c.loop-done.auto.out))
    ∙ (λ i. f (to_z-of_z w32 c.args.row row i) (index_at c.args.col.now (c.args.points.now.col +ℤ pos k)))
