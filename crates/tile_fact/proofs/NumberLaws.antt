-- The numbers that bytes are, one after the other.
use Rattle.std.proofs.Common.{rules, ◌≡◌, ◌≢◌, ℕ, ℤ, suc, ◌/◌, ◌≤◌, ◌<◌, List, [], ◌∷◌, ◌++◌, length, drop, append_assoc}
use Rattle.std.proofs.Common.{append-nil, refl, sym, ap, ◌∙◌, arith, length-drop}
use Rattle.std.specs.declared.cmp.Ordering.{Ordering}
use Rattle.std.specs.declared.cmp.Ordering.TheVariants.{Less, Equal, Greater}
use Rattle.std.specs.Cmp.Lexicographic.{slice_cmp}
use Rattle.std.specs.Int.{w32, w64}
use Rattle.std.specs.Ordering.{int_cmp, ordering_then, ordering_index}
use Rattle.std.specs.Prelude.{true, false, not, ◌==◌}
use Rattle.tile_fact.specs.Numbers.{number_in, first_numbers, numbers_in}

pub sample_step : (bytes : List ℕ) → 4 ≤ length bytes → numbers_in w32 bytes ≡ number_in w32 bytes ∷ numbers_in w32 (drop 4 bytes)
unfolding first_numbers
sample_step bytes long =
    let count : length bytes / 4 ≡ suc (length (drop 4 bytes) / 4) = omega (arith, length-drop 4 bytes) in
    ap (λ n. first_numbers w32 n bytes) count

pub sample_end : (bytes : List ℕ) → length bytes < 4 → numbers_in w32 bytes ≡ []
unfolding first_numbers
sample_end bytes short =
    let count : length bytes / 4 ≡ 0 = omega arith in
    ap (λ n. first_numbers w32 n bytes) count

pub bin_step : (bytes : List ℕ) → 8 ≤ length bytes → numbers_in w64 bytes ≡ number_in w64 bytes ∷ numbers_in w64 (drop 8 bytes)
unfolding first_numbers
bin_step bytes long =
    let count : length bytes / 8 ≡ suc (length (drop 8 bytes) / 8) = omega (arith, length-drop 8 bytes) in
    ap (λ n. first_numbers w64 n bytes) count

pub bin_end : (bytes : List ℕ) → length bytes < 8 → numbers_in w64 bytes ≡ []
unfolding first_numbers
bin_end bytes short =
    let count : length bytes / 8 ≡ 0 = omega arith in
    ap (λ n. first_numbers w64 n bytes) count

-- ---- comparing number by number

pub unequal_first : (x y : ℤ) (xs ys us vs : List ℤ) (r : Ordering) → r ≡ int_cmp x y → r ≢ Equal → us ≡ x ∷ xs → vs ≡ y ∷ ys
    → r ≡ slice_cmp int_cmp us vs
unequal_first x y xs ys us vs r is not p q = rw (p, q) (is ∙ sym (decided (int_cmp x y) (slice_cmp int_cmp xs ys) (λ e. not (is ∙ e))))
  where
    decided : (a b : Ordering) → a ≢ Equal → ordering_then a b ≡ a
    decided Less b n = refl
    decided Equal b n = absurd (n refl)
    decided Greater b n = refl

pub equal_first : (x y : ℤ) (xs ys us vs : List ℤ) → int_cmp x y ≡ Equal → us ≡ x ∷ xs → vs ≡ y ∷ ys
    → slice_cmp int_cmp xs ys ≡ slice_cmp int_cmp us vs
equal_first x y xs ys us vs e p q = rw (p, q, e) refl

pub longer_first : (x : ℤ) (xs us vs : List ℤ) → us ≡ x ∷ xs → vs ≡ [] → slice_cmp int_cmp us vs ≡ Greater
longer_first x xs us vs p q = rw (p, q) refl

pub shorter_first : (y : ℤ) (ys us vs : List ℤ) → us ≡ [] → vs ≡ y ∷ ys → slice_cmp int_cmp us vs ≡ Less
shorter_first y ys us vs p q = rw (p, q) refl

pub both_end : (us vs : List ℤ) → us ≡ [] → vs ≡ [] → slice_cmp int_cmp us vs ≡ Equal
both_end us vs p q = rw (p, q) refl

-- ---- one number more

pub sample_more : (front all pushed : List ℤ) (rest behind : List ℕ) (x : ℤ) → 4 ≤ length rest → front ++ numbers_in w32 rest ≡ all
    → pushed ≡ front ++ x ∷ []
    → x ≡ number_in w32 rest → behind ≡ drop 4 rest → pushed ++ numbers_in w32 behind ≡ all
sample_more front all pushed rest behind x long so_far push is cut =
    rw (push, is, cut) (append_assoc front (number_in w32 rest ∷ []) (numbers_in w32 (drop 4 rest))
    ∙ ap (λ (l : List ℤ). front ++ l) (sym (sample_step rest long)) ∙ so_far)

pub bin_more : (front all pushed : List ℤ) (rest behind : List ℕ) (x : ℤ) → 8 ≤ length rest → front ++ numbers_in w64 rest ≡ all
    → pushed ≡ front ++ x ∷ []
    → x ≡ number_in w64 rest → behind ≡ drop 8 rest → pushed ++ numbers_in w64 behind ≡ all
bin_more front all pushed rest behind x long so_far push is cut =
    rw (push, is, cut) (append_assoc front (number_in w64 rest ∷ []) (numbers_in w64 (drop 8 rest))
    ∙ ap (λ (l : List ℤ). front ++ l) (sym (bin_step rest long)) ∙ so_far)

pub none_more : (front rest all : List ℤ) → front ++ rest ≡ all → rest ≡ [] → front ≡ all
none_more front rest all so_far end = sym (append-nil front) ∙ ap (λ (l : List ℤ). front ++ l) (sym end) ∙ so_far

-- ---- what a test of an order says

pub is_unequal : (r : Ordering) → true ≡ not (ordering_index r == 1) → r ≢ Equal
is_unequal Less h e = absurd (search rules)
is_unequal Equal h e = absurd (search rules)
is_unequal Greater h e = absurd (search rules)

pub is_equal : (r : Ordering) → false ≡ not (ordering_index r == 1) → r ≡ Equal
is_equal Less h = absurd (search rules)
is_equal Equal h = refl
is_equal Greater h = absurd (search rules)
