-- Looking for a job among those that rise.
use Rattle.std.proofs.Common.{◌≡◌, ◌<◌, ◌≤◌, ◌||◌, inl, inr, ℕ, suc, Bool, true, false, List, [], ◌∷◌, length, get_or, Result}
use Rattle.std.proofs.Common.{Ok, Err, refl, sym, ap, ◌∙◌, arith}
use Rattle.std.proofs.lemmas.Bool.{cases_lt}
use Rattle.std.proofs.lemmas.List.Folds.{list_any_at}
use Rattle.std.proofs.lemmas.Map.Keys.{Less-from_sorted}
use Rattle.std.specs.Cmp.{IsTotalOrder}
use Rattle.std.specs.declared.cmp.Ordering.{Ordering}
use Rattle.std.specs.declared.cmp.Ordering.TheVariants.{Less, Equal, Greater}
use Rattle.std.specs.List.{list_any}
use Rattle.std.specs.List.Sorted.{IsStrictlySortedBy, IsNonDecreasingBy, IsBinarySearchResult, IsSearchInRange}
use Rattle.std.specs.Ordering.{eq_by_cmp, is_eq, ordering_index, ordering_reverse}
use Rattle.std.specs.Result.{is_ok}

module _ {K : Type 0} (cmp : K → K → Ordering) (order : IsTotalOrder cmp) where
  -- of two keys the greater one stands no lower beside a third
  index_rises : (x a b : K) → cmp a b ≡ Less → ordering_index (cmp a x) ≤ ordering_index (cmp b x)
  index_rises x a b below = by (cmp a x) refl
    where
      above : cmp x b ≡ Less → ordering_index (cmp b x) ≡ 2
      above h = ap ordering_index (order.antisymm b x ∙ ap ordering_reverse h)

      by : (o : Ordering) → cmp a x ≡ o → ordering_index (cmp a x) ≤ ordering_index (cmp b x)
      by Less is = omega (arith, ap ordering_index is)
      by Equal is =
          let next : cmp x b ≡ Less = sym (order.congr a x b is) ∙ below in omega (arith, ap ordering_index is, above next)
      by Greater is =
          let low : cmp x a ≡ Less = order.antisymm x a ∙ ap ordering_reverse is in
          omega (arith, ap ordering_index is, above (order.trans x a b low below))

  indices_rise : (xs : List K) (x : K) → IsStrictlySortedBy cmp xs → IsNonDecreasingBy (λ y. ordering_index (cmp y x)) xs
  indices_rise xs x strict i j d le within = elim (cases_lt i j) [
    | inl lt ↦ index_rises x (get_or xs i d) (get_or xs j d) (Less-from_sorted cmp xs i j d strict lt within)
    | inr ge ↦ let same : i ≡ j = omega arith in omega (arith, ap (λ (k : ℕ). ordering_index (cmp (get_or xs k d) x)) same)
  ]

  turned : (x y : K) (o : Ordering) → cmp y x ≡ o → eq_by_cmp cmp x y ≡ is_eq (ordering_reverse o)
  turned x y o is = ap is_eq (order.antisymm x y ∙ ap ordering_reverse is)

  none_at : (p : K → Bool) (xs : List K) → ((k : ℕ) (d : K) → k < length xs → p (get_or xs k d) ≡ false) → list_any p xs ≡ false
  none_at p [] h = refl
  none_at p (x ∷ xs) h = both (p x) (list_any p xs) (h 0 x (omega arith)) (none_at p xs (λ k d lt. h (suc k) d (omega arith)))
    where
      both : (a b : Bool) → a ≡ false → b ≡ false → (a || b) ≡ false
      both true b e f = cc
      both false b e f = f

  pub searched_for : (xs : List K) (x : K) (r : Result ℕ ℕ) → IsStrictlySortedBy cmp xs → IsSearchInRange r (length xs)
      → IsBinarySearchResult (λ y. cmp y x) xs r → is_ok r ≡ list_any (eq_by_cmp cmp x) xs
  searched_for xs x (Ok i) strict within at =
      sym (list_any_at (eq_by_cmp cmp x) xs i x within (turned x (get_or xs i x) Equal (at x)))
  searched_for xs x (Err i) strict within parted =
      let parts = parted (indices_rise xs x strict) in
      sym (none_at (eq_by_cmp cmp x) xs (λ k d lt. elim (cases_lt k i) [
        | inl low ↦ turned x (get_or xs k d) Less (parts.0 k d (omega arith) low)
        | inr high ↦ turned x (get_or xs k d) Greater (parts.1 k d high lt)
      ]))
