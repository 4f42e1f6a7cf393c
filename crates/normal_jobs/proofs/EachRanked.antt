-- What holds of each stage in memory holds of each stage.
use Rattle.std.proofs.Common.{ℕ, zero, suc, ◌≡◌, List, [], ◌∷◌, Some, map, subst}
use Rattle.std.specs.Prelude.{All, slice_get}
use Rattle.std.proofs.lemmas.List.Elements.{All-head, All-tail}
use Rattle.std.proofs.lemmas.Option.{none-some, same_Some}

module _ {K X : Type 0} (view : K → X) (P : X → Type 0) where
  pub each_at : (xs : List K) → All (λ x. P (view x)) xs → (g : ℕ) (y : X) → slice_get (map view xs) g ≡ Some y → P y
  each_at [] each g y there = absurd (none-some y there)
  each_at (x ∷ xs) each zero y there = subst P (same_Some (view x) y there) (All-head (λ k. P (view k)) x xs each)
  each_at (x ∷ xs) each (suc g) y there = each_at xs (All-tail (λ k. P (view k)) x xs each) g y there
