-- What threads made, put together in order.
use Rattle.std.proofs.Common.{arith, ℕ, ◌-◌, ◌≡◌, List, [], ◌∷◌, map, refl, ap, subst, sym, ◌∙◌, MatchResult, Result, Ok, Err}
use Rattle.std.proofs.lemmas.List.Elements.{All-cons, All-nil}
use Rattle.std.specs.Prelude.{All, IfOk}
use Rattle.std.specs.List.{AllZip, Contains, range_with_len}
use Rattle.std.specs.declared.vec.Vec.{Vec}
use Rattle.rayon.specs.Numbers.{nat_range}

made_in_order : {X Y Z E : Type 0} (R : X → Result Y E → Type 0) (view : Y → Z) (h : X → Z)
    → ((x : X) (y : Y) → R x (Ok y) → view y ≡ h x) → (xs : List X) (ys : List Y) → AllZip R xs (map Ok ys) → map view ys ≡ map h xs
made_in_order R view h each [] [] z = refl
made_in_order R view h each [] (y ∷ ys) z = absurd z
made_in_order R view h each (x ∷ xs) [] z = absurd z
made_in_order R view h each (x ∷ xs) (y ∷ ys) z =
    let first = each x y z.0 in
    let rest = made_in_order R view h each xs ys z.1 in
    λ i. first i ∷ rest i

if_ok : {A E : Type 0} (r : Result A E) (P : A → Type 0) (Q : E → Type 0) (G : A → Type 0)
    → MatchResult r P Q → ((a : A) → P a → G a) → IfOk r G
if_ok (Ok a) P Q G m f = f a m
if_ok (Err e) P Q G m f = tt

made_all : {X Y E : Type 0} (R : X → Result Y E → Type 0) (P : Y → Type 0)
    → ((x : X) (y : Y) → R x (Ok y) → P y) → (xs : List X) (ys : List Y) → AllZip R xs (map Ok ys) → All P ys
made_all R P each [] [] z = All-nil P
made_all R P each [] (y ∷ ys) z = absurd z
made_all R P each (x ∷ xs) [] z = absurd z
made_all R P each (x ∷ xs) (y ∷ ys) z = All-cons P y ys (each x y z.0) (made_all R P each xs ys z.1)

-- what came of the numbers below n, where each came of its number
pub collected : {Y Z E A : Type 0} (view : Y → Z) (h : ℕ → Z) (R : ℕ → Result Y E → Type 0) (n : ℕ) (all : List (Result Y E))
    (r : Result (Vec Y A) E)
    → ((x : ℕ) (y : Y) → R x (Ok y) → view y ≡ h x)
    → (xs : List ℕ) → xs ≡ nat_range 0 n → AllZip R xs all
    → MatchResult r (λ v. (ys : List Y) × (all ≡ map Ok ys) × (v.items ≡ ys)) (λ e. Contains all (Err e))
    → IfOk r (λ v. map view v.items ≡ map h (range_with_len 0 n))
collected {Y} {Z} {E} {A} view h R n all r each xs places zipped match =
    let whole : n - 0 ≡ n = omega arith in
    if_ok r (λ v. (ys : List Y) × (all ≡ map Ok ys) × (v.items ≡ ys)) (λ e. Contains all (Err e))
    (λ v. map view v.items ≡ map h (range_with_len 0 n)) match (λ v made.
    ap (map view) made.2
    ∙ made_in_order R view h each xs made.0 (subst (λ (l : List (Result Y E)). AllZip R xs l) made.1 zipped)
    ∙ ap (map h) (places ∙ ap (range_with_len 0) whole))

-- what holds of each thing that came holds of all
pub collected_all : {Y E A : Type 0} (P : Y → Type 0) (R : ℕ → Result Y E → Type 0) (all : List (Result Y E)) (r : Result (Vec Y A) E)
    → ((x : ℕ) (y : Y) → R x (Ok y) → P y)
    → (xs : List ℕ) → AllZip R xs all
    → MatchResult r (λ v. (ys : List Y) × (all ≡ map Ok ys) × (v.items ≡ ys)) (λ e. Contains all (Err e))
    → IfOk r (λ v. All P v.items)
collected_all {Y} {E} {A} P R all r each xs zipped match =
    if_ok r (λ v. (ys : List Y) × (all ≡ map Ok ys) × (v.items ≡ ys)) (λ e. Contains all (Err e)) (λ v. All P v.items) match (λ v made.
    subst (All P) (sym made.2)
    (made_all R P each xs made.0 (subst (λ (l : List (Result Y E)). AllZip R xs l) made.1 zipped)))
