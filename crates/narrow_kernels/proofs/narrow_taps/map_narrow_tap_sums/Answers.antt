use Rattle.std.proofs.Common.{ℤ, ◌+ℤ◌, ap, refl, ◌∙◌, w16}
use Rattle.std.specs.Int.{int_wrap}
use Rattle.row_loops.specs.Rows.{at}
use Rattle.narrow_kernels.specs.declared.narrow_taps.NarrowTap.{NarrowTap}
use Rattle.narrow_kernels.specs.NarrowTaps.{tap_at, tap_sum}
use Rattle.narrow_kernels.proofs.NarrowSums.{same_sum}
use Rattle.narrow_kernels.proofs.narrow_taps.map_narrow_tap_sums.Goals as goal

pub returns : goal.returns
returns g c = λ k h.
    c.map_narrow_terms.ensures k h
    ∙ ap (λ (z : ℤ). g.C.NarrowNumberMap.value c.args.make (int_wrap w16 (g.S.NarrowTerm.exact c.args.start (at c.args.out.now k) k +ℤ z)))
    (same_sum (λ (tap : NarrowTap). tap_at tap k) (λ taps. tap_sum taps k) refl (λ x xs. refl) c.args.taps.now)
