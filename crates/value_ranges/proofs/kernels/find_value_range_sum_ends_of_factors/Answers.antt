use Rattle.std.proofs.Common.{arith, ℤ, ℕ, pos, add-one, ◌*ℤ◌, ◌+ℤ◌, ◌≡◌, ◌<◌, subst, length, ap, refl, to_z, of_z, w64}
use Rattle.std.specs.Prelude.{slice_index_or}
use Rattle.std.proofs.lemmas.Int.{ints, to_z-of_z}
use Rattle.job.specs.Values.{sum_below}
use Rattle.value_ranges.specs.Ranges.{InRange}
use Rattle.value_ranges.specs.inside.Found.{IsBetween}
use Rattle.value_ranges.proofs.Ends.{sum_more, between_same}
use Rattle.value_ranges.proofs.kernels.find_value_range_sum_ends_of_factors.Goals as goal

pub loop-factor-init : goal.loop-factor-init
loop-factor-init c = λ f within. record { low = omega (arith, ints); high = omega (arith, ints) }

pub loop-factor-preserved : goal.loop-factor-preserved
loop-factor-preserved c = rw add-one (λ f within.
    let before = c.loop-factor.invariant f (λ b h. within b (omega (arith, h))) in
    let here = c.find_value_range_product_ends_of_factor-lo.ensures (f c.loop-factor.factor-index) (within c.loop-factor.factor-index (omega arith)) in
    let i = c.loop-factor.factor-index in
    let ends = c.find_value_range_product_ends_of_factor-lo.result in
    let product : IsBetween (ends.0, ends.1) (slice_index_or c.args.factors.now i (pos 0) *ℤ f i) =
    between_same ends.0 ends.1 ends.0 ends.1 _ _ here refl refl (ap (λ (z : ℤ). z *ℤ f i) (grind (arith, to_z-of_z))) in
    let low : to_z w64 (of_z w64 c.in_ok-least.least) ≡ to_z w64 c.loop-factor.least-bits +ℤ ends.0 =
    grind (arith, to_z-of_z, c.in_ok-least.ensures.1) in
    let high : to_z w64 (of_z w64 c.in_ok-greatest.greatest) ≡ to_z w64 c.loop-factor.greatest-bits +ℤ ends.1 =
    grind (arith, to_z-of_z, c.in_ok-greatest.ensures.1) in
    sum_more _ _ _ _ _ _ _ _ before product low high)

pub returns : goal.returns
returns c =
    let end : c.loop-factor.factor-index ≡ length c.args.factors.now = omega arith in
    subst (λ (n : ℕ). (f : ℕ → ℤ) → ((b : ℕ) → b < n → InRange c.args.range (f b))
    → IsBetween (to_z w64 c.loop-factor.least-bits, to_z w64 c.loop-factor.greatest-bits)
    (sum_below n (λ b. slice_index_or c.args.factors.now b (pos 0) *ℤ f b))) end c.loop-factor.invariant
