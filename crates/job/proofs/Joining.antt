-- Totals of two lists join to the total of both.
use Rattle.std.proofs.Common.{◌≡◌, ℤ, pos, ◌+ℤ◌, ◌≤ℤ◌, arith, w64, List, [], ◌∷◌, ◌++◌, ap, sym, ◌∙◌, refl}
use Rattle.std.specs.Prelude.{fold}
use Rattle.std.specs.Int.{int_wrap, int_min, int_max}
use Rattle.std.proofs.lemmas.Int.{ints, clamps, int_wrap-add_left, int_wrap-add_right, fold-int_min_bounds, fold-int_max_bounds}
use Rattle.std.proofs.lemmas.List.Sums.{fold-append}
use Rattle.operators.specs.declared.operator.ReductionOp.{ReductionOp}
use Rattle.operators.specs.declared.operator.ReductionOp.TheVariants.{Sum, Min, Max}
use Rattle.job.specs.Totals.{start_of, total_of, joined}

plus_assoc : (a b x : ℤ) → a +ℤ b +ℤ x ≡ a +ℤ (b +ℤ x)
plus_assoc a b x = omega (arith, ints)

fold-plus : (a b : ℤ) (vs : List ℤ) → fold ◌+ℤ◌ (a +ℤ b) vs ≡ a +ℤ fold ◌+ℤ◌ b vs
fold-plus a b [] = refl
fold-plus a b (x ∷ xs) = ap (λ (z : ℤ). fold ◌+ℤ◌ z xs) (plus_assoc a b x) ∙ fold-plus a (b +ℤ x) xs

plus_zero : (a : ℤ) → a ≡ a +ℤ pos 0
plus_zero a = omega (arith, ints)

sums_join : (vs ws : List ℤ) → fold ◌+ℤ◌ (pos 0) (vs ++ ws) ≡ fold ◌+ℤ◌ (pos 0) vs +ℤ fold ◌+ℤ◌ (pos 0) ws
sums_join vs ws =
    fold-append ◌+ℤ◌ (pos 0) vs ws
    ∙ ap (λ (z : ℤ). fold ◌+ℤ◌ z ws) (plus_zero (fold ◌+ℤ◌ (pos 0) vs))
    ∙ fold-plus (fold ◌+ℤ◌ (pos 0) vs) (pos 0) ws

min_assoc : (a b x : ℤ) → int_min (int_min a b) x ≡ int_min a (int_min b x)
min_assoc a b x = omega (arith, ints, clamps)

fold-min : (a b : ℤ) (vs : List ℤ) → fold int_min (int_min a b) vs ≡ int_min a (fold int_min b vs)
fold-min a b [] = refl
fold-min a b (x ∷ xs) = ap (λ (z : ℤ). fold int_min z xs) (min_assoc a b x) ∙ fold-min a (int_min b x) xs

min_same : (a s : ℤ) → a ≤ℤ s → a ≡ int_min a s
min_same a s h = omega (arith, ints, clamps)

least_join : (s : ℤ) (vs ws : List ℤ) → fold int_min s (vs ++ ws) ≡ int_min (fold int_min s vs) (fold int_min s ws)
least_join s vs ws =
    fold-append int_min s vs ws
    ∙ ap (λ (z : ℤ). fold int_min z ws) (min_same (fold int_min s vs) s (fold-int_min_bounds s vs (fold int_min s vs) refl).0)
    ∙ fold-min (fold int_min s vs) s ws

max_assoc : (a b x : ℤ) → int_max (int_max a b) x ≡ int_max a (int_max b x)
max_assoc a b x = omega (arith, ints, clamps)

fold-max : (a b : ℤ) (vs : List ℤ) → fold int_max (int_max a b) vs ≡ int_max a (fold int_max b vs)
fold-max a b [] = refl
fold-max a b (x ∷ xs) = ap (λ (z : ℤ). fold int_max z xs) (max_assoc a b x) ∙ fold-max a (int_max b x) xs

max_same : (a s : ℤ) → s ≤ℤ a → a ≡ int_max a s
max_same a s h = omega (arith, ints, clamps)

greatest_join : (s : ℤ) (vs ws : List ℤ) → fold int_max s (vs ++ ws) ≡ int_max (fold int_max s vs) (fold int_max s ws)
greatest_join s vs ws =
    fold-append int_max s vs ws
    ∙ ap (λ (z : ℤ). fold int_max z ws) (max_same (fold int_max s vs) s (fold-int_max_bounds s vs (fold int_max s vs) refl).0)
    ∙ fold-max (fold int_max s vs) s ws

pub total_of-append : (way : ReductionOp) (vs ws : List ℤ) → total_of way (vs ++ ws) ≡ joined way (total_of way vs) (total_of way ws)
total_of-append Sum vs ws =
    ap (int_wrap w64) (sums_join vs ws)
    ∙ sym (int_wrap-add_left w64 (fold ◌+ℤ◌ (pos 0) vs) (fold ◌+ℤ◌ (pos 0) ws))
    ∙ sym (int_wrap-add_right w64 (int_wrap w64 (fold ◌+ℤ◌ (pos 0) vs)) (fold ◌+ℤ◌ (pos 0) ws))
total_of-append Min vs ws = least_join (start_of Min) vs ws
total_of-append Max vs ws = greatest_join (start_of Max) vs ws
