-- Members of lists at their places.
use Rattle.std.proofs.Common.{◌≡◌, ◌∙◌, ◌⊎◌, ℕ, zero, suc, List, [], ◌∷◌, ◌++◌, Some, All, length, slice_get, get_or, map, length-append, ◌+◌, ◌<◌, refl, ap, sym, subst, inl, inr}
use Rattle.std.proofs.lemmas.List.Elements.{All-append, All-cons, All-nil}
use Rattle.std.proofs.lemmas.Option.{slice_get-get_or, slice_get-map}
use Rattle.std.specs.Option.{option_map}
use Rattle.farm.specs.Members.{BelongTogether, EachAt}

-- what stands at a place of a list with one member more
pub got_more : {X : Type 0} (xs : List X) (x : X) (k : ℕ) (y : X) → slice_get (xs ++ x ∷ []) k ≡ Some y
    → (slice_get xs k ≡ Some y) ⊎ ((k ≡ length xs) × (x ≡ y))
got_more [] x zero y is = inr (refl, cc)
got_more [] x (suc k) y is = absurd cc
got_more (z ∷ xs) x zero y is = inl is
got_more (z ∷ xs) x (suc k) y is = elim (got_more xs x k y is) [ inl there ↦ inl there | inr last ↦ inr (ap suc last.0, last.1) ]

-- what is made of the member at a place
pub made_at : {X Y : Type 0} (f : X → Y) (xs : List X) (i place : ℕ) (x : X) → i ≡ place → i < length xs → x ≡ get_or xs i x
    → slice_get (map f xs) place ≡ Some (f x)
made_at f xs i place x at within is =
    subst (λ (k : ℕ). slice_get (map f xs) k ≡ Some (f x)) at
    (slice_get-map f xs i ∙ ap (option_map f) (slice_get-get_or xs i x within ∙ ap Some (sym is)))

-- one member more, as in another list
pub lengths_more : {X Y : Type 0} (xs old new : List X) (ys : List Y) (x : X) (y : Y) → old ≡ xs → new ≡ old ++ x ∷ [] → length xs ≡ length ys
    → length new ≡ length (ys ++ y ∷ [])
lengths_more {X} xs old new ys x y held grown same =
    ap length (grown ∙ ap (λ (l : List X). l ++ x ∷ []) held) ∙ length-append xs (x ∷ []) ∙ ap (λ k. k + 1) same ∙ sym (length-append ys (y ∷ []))

-- so many of which something holds, and one more
pub so_many_more : {X : Type 0} (P : X → Type 0) (xs old new : List X) (x : X) (n : ℕ) → All P xs → length xs ≡ n → old ≡ xs
    → new ≡ old ++ x ∷ [] → P x → All P new × (length new ≡ n + 1)
so_many_more {X} P xs old new x n all many held grown holds =
    rw (grown, held) (All-append P xs (x ∷ []) all (All-cons P x [] holds (All-nil P)), length-append xs (x ∷ []) ∙ ap (λ k. k + 1) many)

-- ---- what each has at its place

pub each_more : {X : Type 0} (P : ℕ → X → Type 0) (xs old new : List X) (x : X) → old ≡ xs → new ≡ old ++ x ∷ [] → EachAt P xs → P (length xs) x
    → EachAt P new
each_more {X} P xs old new x held grown before holds place y there =
    elim (got_more xs x place y (subst (λ (l : List X). slice_get l place ≡ Some y) (grown ∙ ap (λ (l : List X). l ++ x ∷ []) held) there)) [
      | inl there ↦ before place y there
      | inr last ↦ subst (P place) last.1 (subst (λ (k : ℕ). P k x) (sym last.0) holds)
    ]

-- ---- what belongs together

at_end : {X Y : Type 0} (P : X → Y → Type 0) (x : X) (y : Y) → P x y → (xs : List X) (ys : List Y) → BelongTogether P xs ys
    → BelongTogether P (xs ++ x ∷ []) (ys ++ y ∷ [])
at_end P x y is [] [] are = (is, tt)
at_end P x y is [] (v ∷ ys) are = absurd are
at_end P x y is (u ∷ xs) [] are = absurd are
at_end P x y is (u ∷ xs) (v ∷ ys) are = (are.0, at_end P x y is xs ys are.1)

-- a pair more
pub together_more : {X Y : Type 0} (P : X → Y → Type 0) (xs : List X) (ys old new : List Y) (x : X) (y : Y) → BelongTogether P xs ys → old ≡ ys
    → new ≡ old ++ y ∷ [] → P x y → BelongTogether P (xs ++ x ∷ []) new
together_more {X} {Y} P xs ys old new x y are held grown is =
    subst (BelongTogether P (xs ++ x ∷ [])) (sym (grown ∙ ap (λ (l : List Y). l ++ y ∷ []) held)) (at_end P x y is xs ys are)

-- through what is between
pub together_through : {X Y Z : Type 0} (P : X → Y → Type 0) (Q : Y → Z → Type 0) (R : X → Z → Type 0)
    → ((x : X) (y : Y) (z : Z) → P x y → Q y z → R x z) → (xs : List X) (ys : List Y) (zs : List Z)
    → BelongTogether P xs ys → BelongTogether Q ys zs → BelongTogether R xs zs
together_through P Q R step [] [] [] p q = tt
together_through P Q R step [] [] (z ∷ zs) p q = absurd q
together_through P Q R step [] (y ∷ ys) zs p q = absurd p
together_through P Q R step (x ∷ xs) [] zs p q = absurd p
together_through P Q R step (x ∷ xs) (y ∷ ys) [] p q = absurd q
together_through P Q R step (x ∷ xs) (y ∷ ys) (z ∷ zs) p q = (step x y z p.0 q.0, together_through P Q R step xs ys zs p.1 q.1)

pub together_length : {X Y : Type 0} (P : X → Y → Type 0) (xs : List X) (ys : List Y) → BelongTogether P xs ys → length ys ≡ length xs
together_length P [] [] are = refl
together_length P [] (y ∷ ys) are = absurd are
together_length P (x ∷ xs) [] are = absurd are
together_length P (x ∷ xs) (y ∷ ys) are = ap suc (together_length P xs ys are.1)

-- the one that a member belongs to
pub together_at : {X Y : Type 0} (P : X → Y → Type 0) (xs : List X) (ys : List Y) → BelongTogether P xs ys → (k : ℕ) (y : Y) → slice_get ys k ≡ Some y
    → (x : X) × (slice_get xs k ≡ Some x) × P x y
together_at P [] [] are k y there = absurd cc
together_at P [] (v ∷ ys) are k y there = absurd are
together_at P (u ∷ xs) [] are k y there = absurd cc
together_at P (u ∷ xs) (v ∷ ys) are zero y there = let same : v ≡ y = cc in (u, refl, subst (P u) same are.0)
together_at P (u ∷ xs) (v ∷ ys) are (suc k) y there = together_at P xs ys are.1 k y there
