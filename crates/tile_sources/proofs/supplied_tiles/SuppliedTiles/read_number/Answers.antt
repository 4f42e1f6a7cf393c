use Rattle.std.proofs.Common.{rules, ℤ, ap, ◌∙◌, w32, FitsSigned, to_z, of_z}
use Rattle.std.proofs.lemmas.Int.{to_z-of_z}
use Rattle.tile_eval.specs.Rows.{at}
use Rattle.tile_eval.specs.Raster.{place_of}
use Rattle.tile_sources.proofs.RowsCrossTiles.{number_is, same_about}
use Rattle.tile_sources.proofs.supplied_tiles.SuppliedTiles.read_number.Goals as goal

pub returns-in-Some : goal.returns-in-Some
returns-in-Some g c =
    let row : FitsSigned w32 c.args.row = search rules in
    let col : FitsSigned w32 c.args.col = search rules in
    let fits : FitsSigned w32 c.read_sample.result = search rules in
    to_z-of_z w32 c.read_sample.result fits
    ∙ c.read_sample.ensures
    ∙ ap (λ (r : ℤ). at c.in-Some.block.values.now (place_of c.in-Some.block.area r (to_z w32 (of_z w32 c.args.col))))
    (to_z-of_z w32 c.args.row row)
    ∙ ap (λ (x : ℤ). at c.in-Some.block.values.now (place_of c.in-Some.block.area c.args.row x)) (to_z-of_z w32 c.args.col col)
    ∙ number_is (g.K.TileSource.given c.args.self.now.known.now) c.args.self.now.stage c.args.self.now.grid c.args.row c.args.col c.in-Some.block
    (same_about (g.K.TileSource.given c.args.self.now.known.now) c.args.self.now.stage c.args.self.now.grid c.args.row c.args.col _ _
    c.in-Some.block (to_z-of_z w32 c.args.row row) (to_z-of_z w32 c.args.col col) c.in-Some.ensures.some)
