use Rattle.std.proofs.Common.{rules, ℤ, pos, FitsSigned, ◌+ℤ◌, ap, ◌∙◌, w32, to_z, of_z}
use Rattle.std.proofs.lemmas.Int.{to_z-of_z}
use Rattle.row_loops.specs.Rows.{at}
use Rattle.tile_eval.specs.Raster.{place_of}
use Rattle.whole_stages.proofs.KnownSamples.{known_within, known_sample}
use Rattle.whole_stages.proofs.buffer_source.StageBuffersRowSource.read_row.Goals as goal

pub read_row-requires : goal.read_row-requires
read_row-requires c =
    let row : FitsSigned w32 c.args.row = search rules in
    let first : FitsSigned w32 c.args.first = search rules in
    rw (to_z-of_z w32 c.args.row row) (rw (to_z-of_z w32 c.args.first first) (λ k h.
    known_within c.args.self.now.buffers.items c.args.stage c.in-Some.whole.now c.view.result.area _ _ c.in-Some.ensures.some
    c.view.ensures.area (c.requires k h)))

pub returns-in-Some : goal.returns-in-Some
returns-in-Some c = λ k h.
    let row : FitsSigned w32 c.args.row = search rules in
    let first : FitsSigned w32 c.args.first = search rules in
    known_sample c.args.self.now.buffers.items c.args.stage c.in-Some.whole.now c.view.result.area c.view.result.values.now c.args.row
    (c.args.first +ℤ pos k) _ c.in-Some.ensures.some c.view.ensures.area c.view.ensures.values
    (c.read_row.ensures k h
    ∙ ap (λ (r : ℤ). at c.view.result.values.now (place_of c.view.result.area r (to_z w32 (of_z w32 c.args.first) +ℤ pos k)))
    (to_z-of_z w32 c.args.row row)
    ∙ ap (λ (x : ℤ). at c.view.result.values.now (place_of c.view.result.area c.args.row (x +ℤ pos k))) (to_z-of_z w32 c.args.first first))
