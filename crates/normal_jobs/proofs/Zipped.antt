-- Lists whose items are related place by place.
use Rattle.std.proofs.Common.{ℕ, zero, suc, ◌+◌, ◌≡◌, List, [], ◌∷◌, ◌++◌, Some, length, slice_get, map, take, ◌<◌, sym, ◌∙◌, ap, subst, refl}
use Rattle.std.specs.Prelude.{All, slice_index_or}
use Rattle.std.specs.List.{AllZip}
use Rattle.std.specs.Option.{option_map_or}
use Rattle.std.proofs.lemmas.List.{map-append, take_more}
use Rattle.std.proofs.lemmas.List.Elements.{All-nil, All-cons, All-head, All-tail, AllZip-push}
use Rattle.std.proofs.lemmas.Option.{none-some, same_Some}

module _ {X : Type 0} (R : X → X → Type 0) where
  -- the item of the first list where the second has one
  pub record Before (xs : List X) (k : ℕ) (y : X) : Type 0 where
    pub item : X
    pub there : slice_get xs k ≡ Some item
    pub related : R item y

  -- the item of the second list where the first has one
  pub record After (ys : List X) (k : ℕ) (x : X) : Type 0 where
    pub item : X
    pub there : slice_get ys k ≡ Some item
    pub related : R x item

  pub find_before : (xs ys : List X) → AllZip R xs ys → (k : ℕ) (y : X) → slice_get ys k ≡ Some y → Before xs k y
  find_before [] [] z k y is = absurd (none-some y is)
  find_before [] (v ∷ ys) z k y is = absurd z
  find_before (x ∷ xs) [] z k y is = absurd z
  find_before (x ∷ xs) (v ∷ ys) z zero y is = record { item = x; there = refl; related = subst (R x) (same_Some v y is) z.0 }
  find_before (x ∷ xs) (v ∷ ys) z (suc k) y is =
      let found = find_before xs ys z.1 k y is in
      record { item = found.item; there = found.there; related = found.related }

  pub find_after : (xs ys : List X) → AllZip R xs ys → (k : ℕ) (x : X) → slice_get xs k ≡ Some x → After ys k x
  find_after [] [] z k x is = absurd (none-some x is)
  find_after [] (v ∷ ys) z k x is = absurd z
  find_after (u ∷ xs) [] z k x is = absurd z
  find_after (u ∷ xs) (v ∷ ys) z zero x is = record { item = v; there = refl; related = subst (λ w. R w v) (same_Some u x is) z.0 }
  find_after (u ∷ xs) (v ∷ ys) z (suc k) x is =
      let found = find_after xs ys z.1 k x is in
      record { item = found.item; there = found.there; related = found.related }

  pub same_length : (xs ys : List X) → AllZip R xs ys → length xs ≡ length ys
  same_length [] [] z = refl
  same_length [] (y ∷ ys) z = absurd z
  same_length (x ∷ xs) [] z = absurd z
  same_length (x ∷ xs) (y ∷ ys) z = ap suc (same_length xs ys z.1)

  pub zip_append : (xs ys us vs : List X) → AllZip R xs ys → AllZip R us vs → AllZip R (xs ++ us) (ys ++ vs)
  zip_append [] [] us vs z w = w
  zip_append [] (y ∷ ys) us vs z w = absurd z
  zip_append (x ∷ xs) [] us vs z w = absurd z
  zip_append (x ∷ xs) (y ∷ ys) us vs z w = (z.0, zip_append xs ys us vs z.1 w)

  -- what follows from the related items holds of each
  pub zip_all : (P Q : X → Type 0) → ((x y : X) → R x y → P x → Q y) → (xs ys : List X) → AllZip R xs ys → All P xs → All Q ys
  zip_all P Q f [] [] z h = All-nil Q
  zip_all P Q f [] (y ∷ ys) z h = absurd z
  zip_all P Q f (x ∷ xs) [] z h = absurd z
  zip_all P Q f (x ∷ xs) (y ∷ ys) z h =
      All-cons Q y ys (f x y z.0 (All-head P x xs h)) (zip_all P Q f xs ys z.1 (All-tail P x xs h))

  -- what is computed of the related items of a place is the same
  pub same_at : {Y : Type 0} (f g : X → Y) (d : Y) (xs ys : List X) → AllZip R xs ys → (k : ℕ)
      → ((x y : X) → slice_get xs k ≡ Some x → R x y → g y ≡ f x) → option_map_or g (slice_get ys k) d ≡ option_map_or f (slice_get xs k) d
  same_at f g d [] [] z k each = refl
  same_at f g d [] (y ∷ ys) z k each = absurd z
  same_at f g d (x ∷ xs) [] z k each = absurd z
  same_at f g d (x ∷ xs) (y ∷ ys) z zero each = each x y refl z.0
  same_at f g d (x ∷ xs) (y ∷ ys) z (suc k) each = same_at f g d xs ys z.1 k each

-- one item more of those in memory, which are seen as others
pub zip_more : {K X : Type 0} (R : X → X → Type 0) (view : K → X) (xs ys : List K) (i : ℕ) (x y : K) → i < length xs
    → x ≡ slice_index_or xs i x → AllZip R (map view (take i xs)) (map view ys) → R (view x) (view y)
    → AllZip R (map view (take (i + 1) xs)) (map view (ys ++ y ∷ []))
zip_more {K} {X} R view xs ys i x y h so z related =
    subst (λ (us : List X). AllZip R us (map view (ys ++ y ∷ [])))
    (sym (map-append view (take i xs) (slice_index_or xs i x ∷ [])) ∙ ap (map view) (sym (take_more xs i x h)))
    (subst (λ (vs : List X). AllZip R (map view (take i xs) ++ view (slice_index_or xs i x) ∷ []) vs) (sym (map-append view ys (y ∷ [])))
    (AllZip-push R (map view (take i xs)) (map view ys) (view (slice_index_or xs i x)) (view y) z
    (subst (λ (u : K). R (view u) (view y)) so related)))
