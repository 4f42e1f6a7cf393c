-- Rows of bin numbers whose least and greatest number say whether all are bins.
use Rattle.std.proofs.Common.{arith, ℕ, ℤ, pos, negsuc, ◌≡◌, ◌<◌, ◌+ℤ◌, ◌-ℤ◌, ◌≤ℤ◌, inl, inr, zero, suc, List, [], ◌∷◌, length, drop}
use Rattle.std.proofs.Common.{ap, ◌∙◌, refl}
use Rattle.std.specs.Prelude.{◌⊎◌, Contains, fold}
use Rattle.std.specs.Int.{int_min, int_max}
use Rattle.std.proofs.lemmas.Int.{ints, fold-int_min_bounds, fold-int_max_bounds, fold-int_min_reached, fold-int_max_reached}
use Rattle.std.proofs.lemmas.List.Elements.{All-contains, All-from_get_or}
use Rattle.tile_eval.specs.Rows.{EachPlace, at}
use Rattle.reductions.specs.inside.Gathering.{IsAmongBins}

-- one number more of a row is in
pub fold_next : (f : ℤ → ℤ → ℤ) (row : List ℤ) (k : ℕ) (so_far next all : ℤ) → k < length row → next ≡ f so_far (at row k)
    → fold f so_far (drop k row) ≡ all → fold f next (drop (suc k) row) ≡ all
fold_next f [] k so_far next all h is e = absurd (omega arith)
fold_next f (x ∷ row) zero so_far next all h is e = ap (λ (z : ℤ). fold f z row) is ∙ e
fold_next f (x ∷ row) (suc k) so_far next all h is e = fold_next f row k so_far next all (omega arith) is e

-- a number that is not below the first bin has a place
place_from : (lo b : ℤ) → lo ≤ℤ b → (place : ℕ) × (lo +ℤ pos place ≡ b)
place_from lo b h = by (b -ℤ lo) refl
  where
    by : (d : ℤ) → d ≡ b -ℤ lo → (place : ℕ) × (lo +ℤ pos place ≡ b)
    by (pos place) e = (place, omega (arith, ints, e))
    by (negsuc n) e = absurd (omega (arith, ints, e, h))

module _ (lo : ℤ) (n : ℕ) (row : List ℤ) where
  -- if none is below the first bin, and the greatest is a bin
  pub all_among : (least greatest : ℤ) (place : ℕ) → least ≡ fold int_min lo row → greatest ≡ fold int_max lo row
      → lo ≤ℤ least → place < n → lo +ℤ pos place ≡ greatest → EachPlace (length row) (λ k. IsAmongBins lo n (at row k))
  all_among least greatest place low high first there is k h =
      let down : least ≤ℤ at row k = (fold-int_min_bounds lo row least low).1 k (pos 0) h in
      let up : at row k ≤ℤ greatest = (fold-int_max_bounds lo row greatest high).1 k (pos 0) h in
      (omega (arith, ints, first, down), omega (arith, ints, there, is, up))

  among_here : EachPlace (length row) (λ k. IsAmongBins lo n (at row k)) → (z : ℤ) → Contains row z → IsAmongBins lo n z
  among_here each z there = All-contains (IsAmongBins lo n) row z (All-from_get_or (IsAmongBins lo n) row (pos 0) each) there

  -- and only if, where there is a bin
  pub first_is_least : (least : ℤ) → least ≡ fold int_min lo row
      → EachPlace (length row) (λ k. IsAmongBins lo n (at row k)) → lo ≤ℤ least
  first_is_least least low each = by (fold-int_min_reached lo row least low)
    where
      by : (least ≡ lo) ⊎ Contains row least → lo ≤ℤ least
      by (inl is) = omega (arith, ints, is)
      by (inr there) = (among_here each least there).0

  pub greatest_has_place : (greatest : ℤ) → greatest ≡ fold int_max lo row → 0 < n
      → EachPlace (length row) (λ k. IsAmongBins lo n (at row k)) → (place : ℕ) × (place < n) × (lo +ℤ pos place ≡ greatest)
  greatest_has_place greatest high some each = by (fold-int_max_reached lo row greatest high)
    where
      by : (greatest ≡ lo) ⊎ Contains row greatest → (place : ℕ) × (place < n) × (lo +ℤ pos place ≡ greatest)
      by (inl is) = (0, some, omega (arith, ints, is))
      by (inr there) =
          let from : IsAmongBins lo n greatest = among_here each greatest there in
          let found = place_from lo greatest from.0 in
          (found.0, omega (arith, ints, from.1, found.1), found.1)
