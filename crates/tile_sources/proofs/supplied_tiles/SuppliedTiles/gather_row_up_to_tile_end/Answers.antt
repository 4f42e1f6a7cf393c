use Rattle.std.proofs.Common.{rules, ℕ, ℤ, ◌≤◌, ◌+ℤ◌, pos, length, to_z, of_z, w32, FitsSigned, subst, sym, ap, ◌∙◌}
use Rattle.row_kernels.specs.Places.{place_of}
use Rattle.row_loops.specs.Rows.{at}
use Rattle.std.proofs.Math.IntN.{+ℤ_idr}
use Rattle.std.proofs.lemmas.Int.{to_z-of_z}
use Rattle.domains.specs.Index.{index_at}
use Rattle.tile_sources.specs.KnownTiles.{IsGivenAt}
use Rattle.tile_sources.specs.inside.Tiles.{IsTileAbout}
use Rattle.tile_sources.proofs.RowsCrossTiles.{same_about, picked_held, picked_number}
use Rattle.tile_sources.proofs.supplied_tiles.SuppliedTiles.gather_row_up_to_tile_end.Goals as goal

pub gather_row-requires-clause-there : goal.gather_row-requires-clause-there
gather_row-requires-clause-there g c =
    let row : FitsSigned w32 c.args.row = search rules in
    let first : FitsSigned w32 c.first_column_at_index.result = search rules in
    let col : ℤ = index_at c.args.col.now c.args.points.now.col in
    let about : IsTileAbout (g.K.TileSource.given c.args.self.now.known.now) c.args.self.now.stage c.args.self.now.grid c.args.row col
    c.in-Some.block =
    same_about (g.K.TileSource.given c.args.self.now.known.now) c.args.self.now.stage c.args.self.now.grid c.args.row col _ _ c.in-Some.block
    (to_z-of_z w32 c.args.row row) (to_z-of_z w32 _ first ∙ c.first_column_at_index.ensures) c.in-Some.ensures.some in
    let most : c.count_first_points_in_supplied_tile-count.result ≤ length c.args.out.now = rw c.requires.fits c.count_first_points_in_supplied_tile-count.ensures.most in
    rw (to_z-of_z w32 c.args.row row) (rw c.first_points.ensures.col
    (picked_held c.in-Some.block.area c.columns.result.now c.args.row col
    (λ (k : ℕ). index_at c.args.col.now (c.args.points.now.col +ℤ pos k)) c.count_first_points_in_supplied_tile-count.result c.args.out.now about.holds
    c.columns.ensures most c.count_first_points_in_supplied_tile-count.ensures.within))

pub returns-in-Some-clause-numbers : goal.returns-in-Some-clause-numbers
returns-in-Some-clause-numbers g c = λ k h.
    let row : FitsSigned w32 c.args.row = search rules in
    let first : FitsSigned w32 c.first_column_at_index.result = search rules in
    let col : ℤ = index_at c.args.col.now c.args.points.now.col in
    let f : ℕ → ℤ = λ j. index_at c.args.col.now (c.args.points.now.col +ℤ pos j) in
    let about : IsTileAbout (g.K.TileSource.given c.args.self.now.known.now) c.args.self.now.stage c.args.self.now.grid c.args.row col
    c.in-Some.block =
    same_about (g.K.TileSource.given c.args.self.now.known.now) c.args.self.now.stage c.args.self.now.grid c.args.row col _ _ c.in-Some.block
    (to_z-of_z w32 c.args.row row) (to_z-of_z w32 _ first ∙ c.first_column_at_index.ensures) c.in-Some.ensures.some in
    let most : c.count_first_points_in_supplied_tile-count.result ≤ length c.args.out.now = rw c.requires.fits c.count_first_points_in_supplied_tile-count.ensures.most in
    picked_number (g.K.TileSource.given c.args.self.now.known.now) c.args.self.now.stage c.args.self.now.grid c.args.row col _ c.in-Some.block f
    c.count_first_points_in_supplied_tile-count.result k c.args.out.now c.gather_row.new.out _ about (to_z-of_z w32 c.args.row row) most c.gather_row.auto.out h
    (picked_held c.in-Some.block.area c.columns.result.now c.args.row col f c.count_first_points_in_supplied_tile-count.result c.args.out.now about.holds
    c.columns.ensures most c.count_first_points_in_supplied_tile-count.ensures.within)
    (λ j l. c.gather_row.ensures j l
    ∙ ap (λ (x : ℤ). at c.in-Some.block.values.now
    (place_of c.in-Some.block.area (to_z w32 (of_z w32 c.args.row)) (index_at c.args.col.now (x +ℤ pos j)))) c.first_points.ensures.col)

pub returns-in-None-clause-numbers : goal.returns-in-None-clause-numbers
returns-in-None-clause-numbers g c =
    let row : FitsSigned w32 c.args.row = search rules in
    let first : FitsSigned w32 c.first_column_at_index.result = search rules in
    absurd (c.in-None.ensures.none (rw (to_z-of_z w32 c.args.row row)
    (subst (λ (z : ℤ). IsGivenAt (g.K.TileSource.given c.args.self.now.known.now) c.args.self.now.stage c.args.self.now.grid c.args.row z)
    (sym (to_z-of_z w32 _ first ∙ c.first_column_at_index.ensures))
    (subst (λ (z : ℤ). IsGivenAt (g.K.TileSource.given c.args.self.now.known.now) c.args.self.now.stage c.args.self.now.grid c.args.row
    (index_at c.args.col.now z)) (+ℤ_idr c.args.points.now.col) (c.requires.there 0 c.requires.some)))))
