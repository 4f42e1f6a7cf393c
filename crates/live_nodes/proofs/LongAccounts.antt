-- A history for which receipts account is as long as their lists together: its receipts are counted by their numbers.
use Rattle.std.proofs.Common.{◌≡◌, ℕ, zero, suc, ◌+◌, ◌<◌, ◌==◌, List}
use Rattle.std.proofs.Common.{[], ◌∷◌, length, sym, refl, ◌∙◌, arith, All, sum_by, nat_lt, if◌then◌else◌}
use Rattle.std.proofs.lemmas.Bool.Decides.{nat_tests}
use Rattle.std.proofs.lemmas.List.Elements.{All-head, All-tail}
use Rattle.std.proofs.lemmas.List.Sums.{sum_by-append}
use Rattle.std.proofs.lemmas.Option.{slice_get_within}
use Rattle.live_nodes.specs.declared.event.Event.{Event}
use Rattle.live_nodes.specs.declared.receipt.Receipt.{Receipt}
use Rattle.live_nodes.specs.Accounts.{AccountFor, IsShown, times, times_all}

-- 1 where the receipt's number is below n
abbrev low : ℕ → Receipt → ℕ
low n r = if nat_lt r.number n then 1 else 0

abbrev lows : ℕ → List (List Receipt) → ℕ
lows n lists = sum_by (sum_by (low n)) lists

low_more : (n : ℕ) (r : Receipt) → low (suc n) r ≡ low n r + (if r.number == n then 1 else 0)
low_more n r = grind (arith, nat_tests)

low_zero : (r : Receipt) → low 0 r ≡ 0
low_zero r = grind (arith, nat_tests)

list_more : (n : ℕ) (rs : List Receipt) → sum_by (low (suc n)) rs ≡ sum_by (low n) rs + times n rs
list_more n [] = refl
list_more n (r ∷ rs) =
    let one = low_more n r in
    let rest = list_more n rs in
    omega (
      arith,
      one,
      rest,
      sum_by-append (low (suc n)) (r ∷ []) rs,
      sum_by-append (low n) (r ∷ []) rs,
      sum_by-append (λ (x : Receipt). if x.number == n then 1 else 0) (r ∷ []) rs,
    )

lows_more : (n : ℕ) (lists : List (List Receipt)) → lows (suc n) lists ≡ lows n lists + times_all n lists
lows_more n [] = refl
lows_more n (rs ∷ lists) =
    let one = list_more n rs in
    let rest = lows_more n lists in
    omega (
      arith,
      one,
      rest,
      sum_by-append (sum_by (low (suc n))) (rs ∷ []) lists,
      sum_by-append (sum_by (low n)) (rs ∷ []) lists,
      sum_by-append (times n) (rs ∷ []) lists,
    )

low_none : (rs : List Receipt) → sum_by (low 0) rs ≡ 0
low_none [] = refl
low_none (r ∷ rs) = let one = low_zero r in let rest = low_none rs in omega (arith, one, rest, sum_by-append (low 0) (r ∷ []) rs)

lows_none : (lists : List (List Receipt)) → lows 0 lists ≡ 0
lows_none [] = refl
lows_none (rs ∷ lists) =
    let one = low_none rs in let rest = lows_none lists in omega (arith, one, rest, sum_by-append (sum_by (low 0)) (rs ∷ []) lists)

lows_count : (n : ℕ) (lists : List (List Receipt)) → ((k : ℕ) → k < n → times_all k lists ≡ 1) → lows n lists ≡ n
lows_count zero lists each = lows_none lists
lows_count (suc n) lists each =
    let more = lows_more n lists in
    let one = each n (omega arith) in
    let rest = lows_count n lists (λ k below. each k (omega (arith, below))) in
    omega (arith, more, one, rest)

module _ (history : List Event) where
  low_shown : (r : Receipt) → IsShown history r → low (length history) r ≡ 1
  low_shown r shown = let within = slice_get_within history r.number r.event shown in grind (arith, nat_tests, within)

  list_shown : (rs : List Receipt) → All (IsShown history) rs → sum_by (low (length history)) rs ≡ length rs
  list_shown [] all = refl
  list_shown (r ∷ rs) all =
      let one = low_shown r (All-head (IsShown history) r rs all) in
      let rest = list_shown rs (All-tail (IsShown history) r rs all) in
      omega (arith, one, rest, sum_by-append (low (length history)) (r ∷ []) rs)

  lows_shown : (lists : List (List Receipt)) → All (λ rs. All (IsShown history) rs) lists
      → lows (length history) lists ≡ sum_by length lists
  lows_shown [] all = refl
  lows_shown (rs ∷ lists) all =
      let one = list_shown rs (All-head (λ xs. All (IsShown history) xs) rs lists all) in
      let rest = lows_shown lists (All-tail (λ xs. All (IsShown history) xs) rs lists all) in
      omega (
        arith,
        one,
        rest,
        sum_by-append (sum_by (low (length history))) (rs ∷ []) lists,
        sum_by-append (length {A = Receipt}) (rs ∷ []) lists,
      )

  pub as_long : (lists : List (List Receipt)) → AccountFor history lists → length history ≡ sum_by length lists
  as_long lists is = sym (lows_count (length history) lists is.each) ∙ lows_shown lists is.fit.shown
