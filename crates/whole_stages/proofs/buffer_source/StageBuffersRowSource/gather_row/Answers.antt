use Rattle.std.proofs.Common.{rules, ℤ, pos, FitsSigned, ◌+ℤ◌, ap, ◌∙◌, w32}
use Rattle.std.proofs.lemmas.Int.{to_z-of_z}
use Rattle.domains.specs.Index.{index_at}
use Rattle.row_loops.specs.Rows.{at}
use Rattle.tile_eval.specs.Raster.{place_of}
use Rattle.whole_stages.proofs.KnownSamples.{known_within, known_sample}
use Rattle.whole_stages.proofs.buffer_source.StageBuffersRowSource.gather_row.Goals as goal

pub gather_row-requires-clause-there : goal.gather_row-requires-clause-there
gather_row-requires-clause-there c =
    let row : FitsSigned w32 c.args.row = search rules in
    rw (to_z-of_z w32 c.args.row row) (λ k h.
    known_within c.args.self.now.buffers.items c.args.stage c.in-Some.whole.now c.view.result.area _ _ c.in-Some.ensures.some
    c.view.ensures.area (c.requires.there k h))

pub returns-in-Some : goal.returns-in-Some
returns-in-Some c = λ k h.
    let row : FitsSigned w32 c.args.row = search rules in
    known_sample c.args.self.now.buffers.items c.args.stage c.in-Some.whole.now c.view.result.area c.view.result.values.now c.args.row
    (index_at c.args.col.now (c.args.points.now.col +ℤ pos k)) _ c.in-Some.ensures.some c.view.ensures.area c.view.ensures.values
    (c.gather_row.ensures k h
    ∙ ap (λ (r : ℤ). at c.view.result.values.now (place_of c.view.result.area r (index_at c.args.col.now (c.args.points.now.col +ℤ pos k))))
    (to_z-of_z w32 c.args.row row))
