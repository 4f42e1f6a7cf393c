use Rattle.std.proofs.Common.{rules, FitsSigned, w32}
use Rattle.std.proofs.lemmas.Int.{to_z-of_z}
use Rattle.whole_stages.proofs.KnownSamples.{known_within}
use Rattle.whole_stages.proofs.buffer_source.StageBuffersRowSource.borrow_row.Goals as goal

pub slice_row-requires : goal.slice_row-requires
slice_row-requires c =
    let row : FitsSigned w32 c.args.row = search rules in
    let first : FitsSigned w32 c.args.first = search rules in
    rw (to_z-of_z w32 c.args.row row) (rw (to_z-of_z w32 c.args.first first) (λ k h.
    known_within c.args.self.now.buffers.items c.args.stage c.in_ok-borrow_buffer_of_stage.field-0.now c.view.result.area _ _ c.in_ok-borrow_buffer_of_stage.ensures.some
    c.view.ensures.area (c.requires k h)))
