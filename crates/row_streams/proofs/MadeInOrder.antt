-- What threads made, joined in order.
use Rattle.std.proofs.Common.{◌≡◌, ◌-◌, ℕ, List, [], ◌∷◌, ◌++◌, map, refl, sym, ap, subst, ◌∙◌, All, MatchResult, Result, Ok, Err, arith}
use Rattle.std.specs.Prelude.{IfOk}
use Rattle.std.specs.List.{flat_map, AllZip, Contains, range_with_len}
use Rattle.std.proofs.lemmas.List.Elements.{All-nil, All-cons}
use Rattle.std.specs.declared.vec.Vec.{Vec}
use Rattle.rayon.specs.Numbers.{nat_range}

joined : {X Y E : Type 0} (R : X → Result Y E → Type 0) (view : Y → List ℕ) (h : X → List ℕ)
    → ((x : X) (y : Y) → R x (Ok y) → view y ≡ h x) → (xs : List X) (ys : List Y) → AllZip R xs (map Ok ys) → flat_map view ys ≡ flat_map h xs
joined R view h each [] [] z = refl
joined R view h each [] (y ∷ ys) z = absurd z
joined R view h each (x ∷ xs) [] z = absurd z
joined R view h each (x ∷ xs) (y ∷ ys) z = λ i. each x y z.0 i ++ joined R view h each xs ys z.1 i

if_ok : {A E : Type 0} (r : Result A E) (P : A → Type 0) (Q : E → Type 0) (G : A → Type 0)
    → MatchResult r P Q → ((a : A) → P a → G a) → IfOk r G
if_ok (Ok a) P Q G m f = f a m
if_ok (Err e) P Q G m f = tt

-- what came of the numbers below n, where the bytes of each came of its number
pub collected_bytes : {Y E A : Type 0} (view : Y → List ℕ) (h : ℕ → List ℕ) (R : ℕ → Result Y E → Type 0) (n : ℕ) (bytes : List ℕ)
    (all : List (Result Y E)) (r : Result (Vec Y A) E)
    → ((x : ℕ) (y : Y) → R x (Ok y) → view y ≡ h x)
    → flat_map h (range_with_len 0 n) ≡ bytes
    → (xs : List ℕ) → xs ≡ nat_range 0 n → AllZip R xs all
    → MatchResult r (λ v. (ys : List Y) × (all ≡ map Ok ys) × (v.items ≡ ys)) (λ e. Contains all (Err e))
    → IfOk r (λ v. flat_map view v.items ≡ bytes)
collected_bytes {Y} {E} {A} view h R n bytes all r each whole xs places zipped match =
    let count : n - 0 ≡ n = omega arith in
    if_ok r (λ v. (ys : List Y) × (all ≡ map Ok ys) × (v.items ≡ ys)) (λ e. Contains all (Err e)) (λ v. flat_map view v.items ≡ bytes) match
    (λ v made.
    ap (flat_map view) made.2
    ∙ joined R view h each xs made.0 (subst (λ (l : List (Result Y E)). AllZip R xs l) made.1 zipped)
    ∙ ap (flat_map h) (places ∙ ap (range_with_len 0) count) ∙ whole)

-- what holds of each that was made holds of all
all_made : {X Y E : Type 0} (R : X → Result Y E → Type 0) (P : Y → Type 0) → ((x : X) (y : Y) → R x (Ok y) → P y)
    → (xs : List X) (ys : List Y) → AllZip R xs (map Ok ys) → All P ys
all_made R P each [] [] z = All-nil P
all_made R P each [] (y ∷ ys) z = absurd z
all_made R P each (x ∷ xs) [] z = absurd z
all_made R P each (x ∷ xs) (y ∷ ys) z = All-cons P y ys (each x y z.0) (all_made R P each xs ys z.1)

pub collected_all : {X Y E A : Type 0} (R : X → Result Y E → Type 0) (P : Y → Type 0) (xs : List X) (all : List (Result Y E)) (r : Result (Vec Y A) E)
    → ((x : X) (y : Y) → R x (Ok y) → P y) → AllZip R xs all
    → MatchResult r (λ v. (ys : List Y) × (all ≡ map Ok ys) × (v.items ≡ ys)) (λ e. Contains all (Err e))
    → IfOk r (λ v. All P v.items)
collected_all {X} {Y} {E} R P xs all r each zipped match =
    if_ok r (λ v. (ys : List Y) × (all ≡ map Ok ys) × (v.items ≡ ys)) (λ e. Contains all (Err e)) (λ v. All P v.items) match
    (λ v made. subst (All P) (sym made.2) (all_made R P each xs made.0 (subst (λ (l : List (Result Y E)). AllZip R xs l) made.1 zipped)))
