-- Lists with more behind them.
use Rattle.std.proofs.Common.{ℕ, zero, suc, ◌<◌, ◌≡◌, List, [], ◌∷◌, ◌++◌, Some, length, map, slice_get, refl, subst, ◌∙◌, arith}
use Rattle.std.specs.Prelude.{All}
use Rattle.std.proofs.lemmas.List.Elements.{All-head, All-tail}
use Rattle.std.proofs.lemmas.Option.{none-some, same_Some}

pub nth_left : {X : Type 0} (xs ys : List X) (k : ℕ) → k < length xs → slice_get (xs ++ ys) k ≡ slice_get xs k
nth_left [] ys k h = absurd (omega (arith, h))
nth_left (x ∷ xs) ys zero h = refl
nth_left (x ∷ xs) ys (suc k) h = nth_left xs ys k (omega (arith, h))

pub there_below : {X : Type 0} (xs : List X) (k : ℕ) (x : X) → slice_get xs k ≡ Some x → k < length xs
there_below [] k x is = absurd (none-some x is)
there_below (y ∷ xs) zero x is = omega arith
there_below (y ∷ xs) (suc k) x is = let h = there_below xs k x is in omega (arith, h)

pub there_left : {X : Type 0} (xs ys : List X) (k : ℕ) (x : X) → slice_get xs k ≡ Some x → slice_get (xs ++ ys) k ≡ Some x
there_left xs ys k x is = nth_left xs ys k (there_below xs k x is) ∙ is

-- what is there is in front, or behind
pub in_front_or_behind : {X : Type 0} (P : X → Type 0) (xs ys : List X) (k : ℕ) (x : X) → ((j : ℕ) (y : X) → slice_get xs j ≡ Some y → P y)
    → ((j : ℕ) (y : X) → slice_get ys j ≡ Some y → P y) → slice_get (xs ++ ys) k ≡ Some x → P x
in_front_or_behind P [] ys k x front behind is = behind k x is
in_front_or_behind P (y ∷ xs) ys zero x front behind is = front zero x is
in_front_or_behind P (y ∷ xs) ys (suc k) x front behind is = in_front_or_behind P xs ys k x (λ j. front (suc j)) behind is

pub all_there : {X : Type 0} (P : X → Type 0) (xs : List X) (k : ℕ) (x : X) → slice_get xs k ≡ Some x → All P xs → P x
all_there P [] k x is all = absurd (none-some x is)
all_there P (y ∷ xs) zero x is all = subst P (same_Some y x is) (All-head P y xs all)
all_there P (y ∷ xs) (suc k) x is all = all_there P xs k x is (All-tail P y xs all)

pub map_within : {X Y : Type 0} (f g : X → Y) (xs : List X) → All (λ x. f x ≡ g x) xs → map f xs ≡ map g xs
map_within f g [] same = refl
map_within {X} {Y} f g (x ∷ xs) same = λ i. All-head (λ (v : X). f v ≡ g v) x xs same i ∷ map_within f g xs (All-tail (λ (v : X). f v ≡ g v) x xs same) i
