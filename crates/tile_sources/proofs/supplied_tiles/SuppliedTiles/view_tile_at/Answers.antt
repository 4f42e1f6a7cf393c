use Rattle.std.proofs.Common.{rules, ◌∙◌, sym, w32, FitsSigned, ap}
use Rattle.std.proofs.lemmas.Int.{to_z-of_z}
use Rattle.domains.specs.Area.{point_count}
use Rattle.tile_sources.proofs.RowsCrossTiles.{if_none, not_given, tile_about}
use Rattle.tile_sources.proofs.supplied_tiles.SuppliedTiles.view_tile_at.Goals as goal

pub returns-in_err-numbers-clause-none : goal.returns-in_err-numbers-clause-none
returns-in_err-numbers-clause-none g c =
    let row : FitsSigned w32 c.args.row = search rules in
    let col : FitsSigned w32 c.args.col = search rules in
    if_none _ _ (not_given (g.K.TileSource.given c.args.self.now.known.now) c.args.self.now.stage c.args.self.now.grid c.args.row c.args.col _ _
    c.in_ok-i.i c.in_ok-i.j (to_z-of_z w32 c.args.row row) (to_z-of_z w32 c.args.col col) c.in_ok-i.ensures.at
    (sym c.in_err-numbers.ensures))

pub new-requires : goal.new-requires
new-requires g c =
    let tile = c.in_ok-area.ensures.some in
    c.args.self.now.whole c.in_ok-i.i c.in_ok-i.j c.in_ok-numbers.numbers.now tile.0 (sym c.in_ok-numbers.ensures)
    ∙ ap point_count (sym tile.1)

pub returns-clause-some : goal.returns-clause-some
returns-clause-some g c =
    let row : FitsSigned w32 c.args.row = search rules in
    let col : FitsSigned w32 c.args.col = search rules in
    let tile = c.in_ok-area.ensures.some in
    let there = c.in_ok-i.ensures.some in
    tile_about (g.K.TileSource.given c.args.self.now.known.now) c.args.self.now.stage c.args.self.now.grid c.args.row c.args.col _ _ c.in_ok-i.i
    c.in_ok-i.j (to_z-of_z w32 c.args.row row) (to_z-of_z w32 c.args.col col) c.in_ok-i.ensures.at
    c.new.result c.in_ok-area.area c.in_ok-numbers.numbers.now there.1 c.new.ensures.area tile.1 c.new.ensures.values
    (sym c.in_ok-numbers.ensures)
