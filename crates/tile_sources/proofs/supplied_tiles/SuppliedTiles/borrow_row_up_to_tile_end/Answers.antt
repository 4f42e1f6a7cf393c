use Rattle.std.proofs.Common.{rules, ℕ, ℤ, ◌<◌, Some, w32, FitsSigned, subst}
use Rattle.std.proofs.Math.IntN.{+ℤ_idr}
use Rattle.std.proofs.lemmas.Int.{to_z-of_z}
use Rattle.tile_sources.specs.KnownTiles.{IsGivenAt}
use Rattle.tile_sources.specs.inside.Tiles.{IsTileAbout}
use Rattle.tile_sources.proofs.RowsCrossTiles.{same_about, part_held, slice_numbers}
use Rattle.tile_sources.proofs.supplied_tiles.SuppliedTiles.borrow_row_up_to_tile_end.Goals as goal

pub slice_row-requires : goal.slice_row-requires
slice_row-requires g c =
    part_held c.in-Some.block.area c.columns.result.now _ _ c.count_supplied_tile_columns_from.result c.in-Some.ensures.some.holds c.columns.ensures
    c.count_supplied_tile_columns_from.ensures.within

pub unreachable-requires : goal.unreachable-requires
unreachable-requires g c =
    let row : FitsSigned w32 c.args.row = search rules in
    let first : FitsSigned w32 c.args.first = search rules in
    c.in-None.ensures.none (rw (to_z-of_z w32 c.args.row row) (rw (to_z-of_z w32 c.args.first first)
    (subst (λ (z : ℤ). IsGivenAt (g.K.TileSource.given c.args.self.now.known.now) c.args.self.now.stage c.args.self.now.grid c.args.row z)
    (+ℤ_idr c.args.first) (c.requires.there 0 c.requires.some))))

pub returns-clause-numbers : goal.returns-clause-numbers
returns-clause-numbers g c = λ k h.
    let row : FitsSigned w32 c.args.row = search rules in
    let first : FitsSigned w32 c.args.first = search rules in
    let about : IsTileAbout (g.K.TileSource.given c.args.self.now.known.now) c.args.self.now.stage c.args.self.now.grid c.args.row c.args.first
    c.in-Some.block =
    same_about (g.K.TileSource.given c.args.self.now.known.now) c.args.self.now.stage c.args.self.now.grid c.args.row c.args.first _ _
    c.in-Some.block (to_z-of_z w32 c.args.row row) (to_z-of_z w32 c.args.first first) c.in-Some.ensures.some in
    let numbers = slice_numbers (g.K.TileSource.given c.args.self.now.known.now) c.args.self.now.stage c.args.self.now.grid c.args.row
    c.args.first _ _ c.in-Some.block c.count_supplied_tile_columns_from.result (Some c.slice_row.result) about (to_z-of_z w32 c.args.row row)
    (to_z-of_z w32 c.args.first first) c.slice_row.ensures.count
    (part_held c.in-Some.block.area c.columns.result.now _ _ c.count_supplied_tile_columns_from.result c.in-Some.ensures.some.holds c.columns.ensures
    c.count_supplied_tile_columns_from.ensures.within) c.slice_row.ensures.values in
    numbers.1 k (subst (λ (n : ℕ). k < n) c.slice_row.ensures.count h)
