-- Laws of what is listed item by item.
use Rattle.std.proofs.Common.{arith, ℕ, zero, suc, ◌≡◌, ◌+◌, ◌<◌, List, [], ◌∷◌, ◌++◌, Option, Some, None, length, map, take, slice_get, ap, sym, refl, subst, ◌∙◌}
use Rattle.std.specs.Prelude.{All, filter_map, slice_index_or}
use Rattle.std.proofs.lemmas.List.{take_more, map-append, append-nil}
use Rattle.std.proofs.lemmas.List.Elements.{All-push, filter_map-append}
use Rattle.std.proofs.lemmas.Option.{none-some, same_Some}
use Rattle.std.specs.List.{cons_option}

-- one item more of those in memory
pub grown : {K X : Type 0} (v : K → X) (xs : List K) (i : ℕ) (x : K) → i < length xs → x ≡ slice_index_or xs i x
    → map v (take (i + 1) xs) ≡ map v (take i xs) ++ v x ∷ []
grown v xs i x h so =
    ap (map v) (take_more xs i x h) ∙ map-append v (take i xs) (slice_index_or xs i x ∷ []) ∙ ap (λ y. map v (take i xs) ++ v y ∷ []) (sym so)

pub all_grown : {K X : Type 0} (P : X → Type 0) (v : K → X) (xs : List K) (i : ℕ) (x : K) → i < length xs → x ≡ slice_index_or xs i x
    → All P (map v (take i xs)) → P (v x) → All P (map v (take (i + 1) xs))
all_grown P v xs i x h so are is = subst (All P) (sym (grown v xs i x h so)) (All-push P (map v (take i xs)) (v x) are is)

-- what is made of it is the last that is made
module _ {K L X Y : Type 0} (f : X → Option Y) (v : K → X) (w : L → Y) (xs : List K) (ys : List L) (i : ℕ) (x : K) (h : i < length xs) (so : x ≡ slice_index_or xs i x)
    (are : map w ys ≡ filter_map f (map v (take i xs))) where
  step : filter_map f (map v (take (i + 1) xs)) ≡ filter_map f (map v (take i xs)) ++ cons_option (f (v x)) []
  step = ap (filter_map f) (grown v xs i x h so) ∙ filter_map-append f (map v (take i xs)) (v x ∷ [])

  pub made_grown : (y : L) → Some (w y) ≡ f (v x) → map w (ys ++ y ∷ []) ≡ filter_map f (map v (take (i + 1) xs))
  made_grown y e =
      map-append w ys (y ∷ []) ∙ (λ j. are j ++ w y ∷ []) ∙ ap (λ o. filter_map f (map v (take i xs)) ++ cons_option o []) e ∙ sym step

  pub none_grown : None ≡ f (v x) → map w ys ≡ filter_map f (map v (take (i + 1) xs))
  none_grown e = are ∙ sym (append-nil (filter_map f (map v (take i xs)))) ∙ ap (λ o. filter_map f (map v (take i xs)) ++ cons_option o []) e ∙ sym step

-- the same of the item at a place
same_default : {K : Type 0} (xs : List K) (i : ℕ) (d e : K) → i < length xs → slice_index_or xs i d ≡ slice_index_or xs i e
same_default [] i d e h = absurd (omega (arith, h))
same_default (x ∷ xs) zero d e h = refl
same_default (x ∷ xs) (suc i) d e h = same_default xs i d e (omega (arith, h))

module _ {K L X Y : Type 0} (f : X → Option Y) (v : K → X) (w : L → Y) (xs : List K) (ys : List L) (i : ℕ) (d : K) (h : i < length xs)
    (are : map w ys ≡ filter_map f (map v (take i xs))) where
  pub made_at : (y : L) → Some (w y) ≡ f (v (slice_index_or xs i d)) → map w (ys ++ y ∷ []) ≡ filter_map f (map v (take (i + 1) xs))
  made_at = made_grown f v w xs ys i (slice_index_or xs i d) h (same_default xs i d (slice_index_or xs i d) h) are

  pub none_at : None ≡ f (v (slice_index_or xs i d)) → map w ys ≡ filter_map f (map v (take (i + 1) xs))
  none_at = none_grown f v w xs ys i (slice_index_or xs i d) h (same_default xs i d (slice_index_or xs i d) h) are

-- places of a list with one item more
pub get_grown : {X : Type 0} (Q : ℕ → X → Type 0) (xs : List X) (x : X) → ((p : ℕ) (y : X) → slice_get xs p ≡ Some y → Q p y) → Q (length xs) x
    → (p : ℕ) (y : X) → slice_get (xs ++ x ∷ []) p ≡ Some y → Q p y
get_grown Q [] x are is zero y e = subst (Q 0) (same_Some x y e) is
get_grown Q [] x are is (suc p) y e = absurd (none-some y e)
get_grown Q (z ∷ xs) x are is zero y e = are zero y e
get_grown Q (z ∷ xs) x are is (suc p) y e = get_grown (λ n. Q (suc n)) xs x (λ n. are (suc n)) is p y e

-- the item of a number is the one that is there
pub same_item : {K : Type 0} (xs : List K) (i : ℕ) (x f : K) → x ≡ slice_index_or xs i x → slice_get xs i ≡ Some f → x ≡ f
same_item [] i x f so e = absurd (none-some f e)
same_item (z ∷ xs) zero x f so e = so ∙ same_Some z f e
same_item (z ∷ xs) (suc i) x f so e = same_item xs i x f so e
