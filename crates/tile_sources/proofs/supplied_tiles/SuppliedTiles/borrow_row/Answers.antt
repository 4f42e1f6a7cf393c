use Rattle.std.proofs.Common.{rules, w32, FitsSigned}
use Rattle.std.proofs.lemmas.Int.{to_z-of_z}
use Rattle.tile_sources.specs.inside.Tiles.{IsTileAbout}
use Rattle.tile_sources.proofs.RowsCrossTiles.{same_about, slice_numbers}
use Rattle.tile_sources.proofs.supplied_tiles.SuppliedTiles.borrow_row.Goals as goal

pub returns-in-Some : goal.returns-in-Some
returns-in-Some g c =
    let row : FitsSigned w32 c.args.row = search rules in
    let first : FitsSigned w32 c.args.first = search rules in
    let about : IsTileAbout (g.K.TileSource.given c.args.self.now.known.now) c.args.self.now.stage c.args.self.now.grid c.args.row c.args.first
    c.in-Some.block =
    same_about (g.K.TileSource.given c.args.self.now.known.now) c.args.self.now.stage c.args.self.now.grid c.args.row c.args.first _ _
    c.in-Some.block (to_z-of_z w32 c.args.row row) (to_z-of_z w32 c.args.first first) c.in-Some.ensures.some in
    slice_numbers (g.K.TileSource.given c.args.self.now.known.now) c.args.self.now.stage c.args.self.now.grid c.args.row c.args.first _ _
    c.in-Some.block c.args.count c.borrow_row_within_supplied_tile.result about (to_z-of_z w32 c.args.row row) (to_z-of_z w32 c.args.first first)
    c.borrow_row_within_supplied_tile.ensures.count c.borrow_row_within_supplied_tile.ensures.held c.borrow_row_within_supplied_tile.ensures.values
