-- Some pixels more, behind the message.
use Rattle.std.proofs.Common.{ℕ, List, ◌++◌, subst, arith, rules}
use Rattle.netpbm.proofs.Written.{raster_to, raster_all, behind_none, behind_more}
use Rattle.netpbm.proofs.writing.hash_raster_piece_by_piece.Goals as goal

pub loop-done-init : goal.loop-done-init
loop-done-init g c = (
  omega arith,
  λ message held. subst (g.D.Digest.holds c.args.hasher.now) (behind_none c.args.picture.now message c.area-area.ensures.image) held,
)

pub loop-done-preserved : goal.loop-done-preserved
loop-done-preserved g c =
    let p = c.args.picture.now in
    let done = c.loop-done.done in
    let end = c.encode_next_pixels_into_buffer-end.result.0 in (
      search rules,
      λ message held. subst (g.D.Digest.holds c.update.new.self)
          (behind_more p done end message _ c.area-area.ensures.image (search rules) (search rules) c.encode_next_pixels_into_buffer-end.ensures.written)
          (c.update.ensures (message ++ raster_to done p) (c.loop-done.invariant.1 message held)),
    )

pub returns : goal.returns
returns g c = λ message held.
    let whole = raster_all c.args.picture.now c.loop-done.done c.area-area.ensures.image (search rules) in
    subst (λ (l : List ℕ). g.D.Digest.holds c.loop-done.hasher (message ++ l)) whole (c.loop-done.invariant.1 message held)
