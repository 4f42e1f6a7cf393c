-- Some pixels more.
use Rattle.std.proofs.Common.{List, ℕ, ◌++◌, ◌∙◌, take, ap, arith, rules}
use Rattle.netpbm.proofs.Written.{raster_all, behind_none, behind_more}
use Rattle.netpbm.proofs.writing.append_raster_piece_by_piece.Goals as goal

pub loop-done-init : goal.loop-done-init
loop-done-init c = (omega arith, behind_none c.args.picture.now _ c.area-area.ensures.image)

pub loop-done-preserved : goal.loop-done-preserved
loop-done-preserved c =
    let p = c.args.picture.now in
    let piece = take c.encode_next_pixels_into_buffer-end.result.1 c.encode_next_pixels_into_buffer-end.new.out in (
      search rules,
      c.in_ok-extend_from_slice.ensures.items ∙ ap (λ (l : List ℕ). l ++ piece) c.loop-done.invariant.1
          ∙ behind_more p c.loop-done.done c.encode_next_pixels_into_buffer-end.result.0 _ piece c.area-area.ensures.image (search rules) (search rules)
          c.encode_next_pixels_into_buffer-end.ensures.written,
    )

pub returns : goal.returns
returns c =
    c.loop-done.invariant.1
    ∙ ap (λ (l : List ℕ). c.args.bytes.now.items ++ l) (raster_all c.args.picture.now c.loop-done.done c.area-area.ensures.image (search rules))
