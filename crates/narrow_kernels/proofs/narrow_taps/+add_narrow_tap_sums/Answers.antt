use Rattle.std.proofs.Common.{rules, ◌≡◌, ◌<◌, ◌+ℤ◌, ℤ, length, ap, refl, ◌∙◌, w16}
use Rattle.std.specs.Int.{int_wrap}
use Rattle.std.proofs.Math.IntN.{+ℤ_assoc, +ℤ_idr}
use Rattle.row_loops.specs.Rows.{at}
use Rattle.narrow_kernels.specs.declared.narrow_taps.NarrowTap.{NarrowTap}
use Rattle.narrow_kernels.specs.NarrowTaps.{tap_at, tap_sum}
use Rattle.narrow_kernels.proofs.NarrowSums.{sum_split}
use Rattle.narrow_kernels.proofs.NarrowWraps.{wrapped_left}
use Rattle.narrow_kernels.proofs.narrow_taps.+add_narrow_tap_sums.Goals as goal

pub returns : goal.returns
returns t c = λ k h s e.
    let inside : k < length c.map_narrow_tap_sums.new.out = search rules in
    let first = tap_sum c.split_at.result.0.now k in
    let front : at c.map_narrow_tap_sums.new.out k ≡ int_wrap w16 (s +ℤ first) =
    c.map_narrow_tap_sums.ensures k h ∙ ap (λ (z : ℤ). int_wrap w16 (z +ℤ first)) (+ℤ_idr (at c.args.out.now k)) ∙ wrapped_left _ s _ e in
    c.add_narrow_tap_sums.ensures k inside _ front
    ∙ ap (int_wrap w16) (+ℤ_assoc s first _ ∙ ap (λ (z : ℤ). s +ℤ z) (sum_split (λ (tap : NarrowTap). tap_at tap k) (λ taps. tap_sum taps k) refl (λ x xs. refl)
    _ c.args.taps.now c.split_at.result.0.now c.split_at.result.1.now c.split_at.ensures.front c.split_at.ensures.back))
