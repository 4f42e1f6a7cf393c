use Rattle.std.proofs.Common.{arith, ℤ, ℕ, List, [], pos, add-one, ◌*ℤ◌, ◌+ℤ◌, ◌≡◌, ◌<◌, subst, length, sym, ◌∙◌, to_z, of_z, w64}
use Rattle.std.specs.Prelude.{slice_index_or}
use Rattle.std.proofs.lemmas.Int.{ints, to_z-of_z}
use Rattle.std.proofs.lemmas.Option.{get_or_from_slice_get}
use Rattle.domains.proofs.Places.{here_is}
use Rattle.job.specs.Values.{sum_below, factors}
use Rattle.value_ranges.specs.Ranges.{InRange}
use Rattle.value_ranges.specs.inside.Found.{IsBetween}
use Rattle.value_ranges.proofs.Ends.{sum_more}
use Rattle.value_ranges.proofs.kernels.find_value_range_sum_ends_of_kernel.Goals as goal

pub loop-factors-init : goal.loop-factors-init
loop-factors-init c = λ f within. record { low = omega (arith, ints); high = omega (arith, ints) }

pub loop-factors-preserved : goal.loop-factors-preserved
loop-factors-preserved c = rw add-one (λ f within.
    let i = c.loop-factors.factors-index in
    let before = c.loop-factors.invariant f (λ a b h. within a b (omega (arith, h))) in
    let kernel = c.args.kernel.now in
    let row : c.as_slice.result.now ≡ factors kernel i =
    c.as_slice.ensures
    ∙ sym (get_or_from_slice_get kernel i c.factors-item.result [] (here_is c.as_slice-factors-items.result.now kernel i c.factors-item.result
    c.as_slice-factors-items.ensures c.loop-factors-test.true c.factors-item.is)) in
    let sum : IsBetween (c.in_ok-lo.lo, c.in_ok-lo.hi) (sum_below (length (factors kernel i)) (λ b. slice_index_or (factors kernel i) b (pos 0) *ℤ f i b)) =
    subst (λ (xs : List ℤ). ((b : ℕ) → b < length xs → InRange c.args.range (f i b))
    → IsBetween (c.in_ok-lo.lo, c.in_ok-lo.hi) (sum_below (length xs) (λ b. slice_index_or xs b (pos 0) *ℤ f i b))) row (c.in_ok-lo.ensures (f i))
    (λ b. within i b (omega arith)) in
    let low : to_z w64 (of_z w64 c.in_ok-least.least) ≡ to_z w64 c.loop-factors.least-bits +ℤ c.in_ok-lo.lo =
    grind (arith, to_z-of_z, c.in_ok-least.ensures.1) in
    let high : to_z w64 (of_z w64 c.in_ok-greatest.greatest) ≡ to_z w64 c.loop-factors.greatest-bits +ℤ c.in_ok-lo.hi =
    grind (arith, to_z-of_z, c.in_ok-greatest.ensures.1) in
    sum_more _ _ _ _ _ _ _ _ before sum low high)

pub returns : goal.returns
returns c =
    let end : c.loop-factors.factors-index ≡ length c.args.kernel.now =
    subst (λ (rows : List (List ℤ)). c.loop-factors.factors-index ≡ length rows) c.as_slice-factors-items.ensures (omega arith) in
    subst (λ (n : ℕ). (f : ℕ → ℕ → ℤ) → ((a b : ℕ) → a < n → b < length (factors c.args.kernel.now a) → InRange c.args.range (f a b))
    → IsBetween (to_z w64 c.loop-factors.least-bits, to_z w64 c.loop-factors.greatest-bits)
    (sum_below n (λ a. sum_below (length (factors c.args.kernel.now a))
    (λ b. slice_index_or (factors c.args.kernel.now a) b (pos 0) *ℤ f a b)))) end c.loop-factors.invariant
