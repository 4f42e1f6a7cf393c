use Rattle.std.proofs.Common.{rules, ℤ, ◌+ℤ◌, pos, List, ◌++◌, drop, length, ap, ◌∙◌, w32, FitsSigned}
use Rattle.std.proofs.lemmas.Int.{to_z-of_z}
use Rattle.tile_eval.specs.Rows.{at}
use Rattle.tile_sources.specs.KnownTiles.{number_at}
use Rattle.tile_sources.proofs.RowsCrossTiles.{in_front}
use Rattle.tile_sources.proofs.supplied_tiles.SuppliedTiles.read_row_up_to_tile_end.Goals as goal

pub borrow_row_up_to_tile_end-line-requires-clause-there : goal.borrow_row_up_to_tile_end-line-requires-clause-there
borrow_row_up_to_tile_end-line-requires-clause-there g c =
    let row : FitsSigned w32 c.args.row = search rules in
    let first : FitsSigned w32 c.args.first = search rules in
    rw (to_z-of_z w32 c.args.row row) (rw (to_z-of_z w32 c.args.first first) c.requires.there)

pub returns-clause-numbers : goal.returns-clause-numbers
returns-clause-numbers g c = λ k h.
    let row : FitsSigned w32 c.args.row = search rules in
    let first : FitsSigned w32 c.args.first = search rules in
    let f : ℤ → ℤ → ℤ = number_at (g.K.TileSource.given c.args.self.now.known.now) c.args.self.now.stage c.args.self.now.grid in
    ap (λ (xs : List ℤ). at (xs ++ drop (length c.borrow_row_up_to_tile_end-line.result.now) c.args.out.now) k) c.copy_from_slice.ensures.after
    ∙ in_front k c.borrow_row_up_to_tile_end-line.result.now (drop (length c.borrow_row_up_to_tile_end-line.result.now) c.args.out.now) h
    ∙ c.borrow_row_up_to_tile_end-line.ensures.numbers k h
    ∙ (λ i. f (to_z-of_z w32 c.args.row row i) (to_z-of_z w32 c.args.first first i +ℤ pos k))
