use Rattle.std.proofs.Common.{◌≡◌, ◌+ℤ◌, List, ◌++◌, length, ap, sym, subst, ◌∙◌}
use Rattle.std.proofs.lemmas.List.{take-append-drop}
use Rattle.std.proofs.lemmas.List.Elements.{All-take, All-drop}
use Rattle.narrow_kernels.specs.declared.narrow_taps.NarrowTap.{NarrowTap}
use Rattle.narrow_kernels.specs.NarrowTaps.{HaveTapLines}
use Rattle.narrow_kernels.specs.NarrowNearTaps.{near_tap_sum}
use Rattle.narrow_kernels.proofs.NarrowCenters.{near_taps_joined}
use Rattle.narrow_kernels.proofs.narrow_centers.match_eight_near_narrow_taps.Goals as goal

pub returns-clause-has : goal.returns-clause-has
returns-clause-has c = λ n center lines.
    let front : HaveTapLines n c.split_at.result.0.now =
    subst (HaveTapLines n) (sym c.split_at.ensures.front) (All-take (λ (tap : NarrowTap). length tap.line.now ≡ n) 4 c.args.taps.now lines) in
    let back : HaveTapLines n c.split_at.result.1.now =
    subst (HaveTapLines n) (sym c.split_at.ensures.back) (All-drop (λ (tap : NarrowTap). length tap.line.now ≡ n) 4 c.args.taps.now lines) in
    (c.in_ok-match_four_near_narrow_taps.ensures.has n center front, c.in_ok-match_four_near_narrow_taps-2.ensures.has n center back)

pub returns-clause-exact : goal.returns-clause-exact
returns-clause-exact c = λ k.
    let front = c.split_at.result.0.now in
    let back = c.split_at.result.1.now in
    let whole : front ++ back ≡ c.args.taps.now =
    (λ i. c.split_at.ensures.front i ++ c.split_at.ensures.back i) ∙ take-append-drop 4 c.args.taps.now in
    (λ i. c.in_ok-match_four_near_narrow_taps.ensures.exact k i +ℤ c.in_ok-match_four_near_narrow_taps-2.ensures.exact k i)
    ∙ near_taps_joined c.args.center front back k
    ∙ ap (λ (taps : List NarrowTap). near_tap_sum c.args.center taps k) whole
