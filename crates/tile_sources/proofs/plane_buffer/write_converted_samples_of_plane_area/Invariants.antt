use Rattle.std.proofs.Common.{◌≡◌, ℕ, ◌<◌, ◌+ℤ◌, ◌*◌, ◌+◌, pos}
use Rattle.job.specs.Values.{sample_at}
use Rattle.tile_eval.specs.Rows.{EachPlace, at}
use Rattle.tile_sources.proofs.plane_buffer.write_converted_samples_of_plane_area.Given as goal

abbrev pub invariant-loop-i : goal.invariant-loop-i
invariant-loop-i l =
    (i : ℕ) → i < l.i
    → EachPlace (l.count) (λ k. at l.out (i * l.count + k)
    ≡ sample_at l.fn.picture l.fn.plane (l.fn.area.rows.lo +ℤ pos i) (l.fn.area.cols.lo +ℤ pos k))
