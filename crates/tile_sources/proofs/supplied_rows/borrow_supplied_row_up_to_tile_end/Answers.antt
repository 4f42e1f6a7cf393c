use Rattle.std.proofs.Common.{rules, pos, ◌+ℤ◌, ◌≡◌, ◌∙◌, sym, subst, w32, FitsSigned}
use Rattle.std.proofs.lemmas.Int.{to_z-of_z}
use Rattle.domains.specs.declared.grid.Grid.{Grid}
use Rattle.job.specs.Answers.{grid_of}
use Rattle.job.specs.Kept.{pipeline_in}
use Rattle.tile_eval.specs.Rows.{EachPlace}
use Rattle.tile_sources.specs.KnownTiles.{number_at, IsGivenAt}
use Rattle.tile_sources.proofs.GivenLines.{number_is, parted_is}
use Rattle.tile_sources.proofs.supplied_rows.borrow_supplied_row_up_to_tile_end.Goals as goal

pub borrow_row_up_to_tile_end-requires-clause-there : goal.borrow_row_up_to_tile_end-requires-clause-there
borrow_row_up_to_tile_end-requires-clause-there g c =
    let row : FitsSigned w32 c.args.row = search rules in
    let first : FitsSigned w32 c.args.first = search rules in
    let job = pipeline_in c.args.job.now in
    let given = g.K.TileSource.given c.args.known.now in
    let line = c.requires.given in
    let is : c.new.result ≡ grid_of job line.stage = parted_is job c.args.stage line.stage line.there c.in-Some.domain c.sides.result
    c.new.result c.in-Some.ensures c.sides.ensures c.new.ensures in
    rw (to_z-of_z w32 c.args.row row) (rw (to_z-of_z w32 c.args.first first)
    (subst (λ (grid : Grid). EachPlace (c.args.most) (λ k. IsGivenAt given c.args.stage grid c.args.row (c.args.first +ℤ pos k)))
    (sym is)
    line.points))

pub returns-clause-numbers : goal.returns-clause-numbers
returns-clause-numbers g c = λ k low.
    let row : FitsSigned w32 c.args.row = search rules in
    let first : FitsSigned w32 c.args.first = search rules in
    let job = pipeline_in c.args.job.now in
    let given = g.K.TileSource.given c.args.known.now in
    let line = c.requires.given in
    let is : c.new.result ≡ grid_of job line.stage = parted_is job c.args.stage line.stage line.there c.in-Some.domain c.sides.result
    c.new.result c.in-Some.ensures c.sides.ensures c.new.ensures in
    c.borrow_row_up_to_tile_end.ensures.numbers k low
    ∙ (λ i. number_at given c.args.stage (is i) (to_z-of_z w32 c.args.row row i) (to_z-of_z w32 c.args.first first i +ℤ pos k))
    ∙ number_is job given c.args.stage line.stage line.there c.args.row (c.args.first +ℤ pos k)
