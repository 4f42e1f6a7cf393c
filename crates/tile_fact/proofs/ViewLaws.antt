-- What steps of reading say of the bytes, one step after the other.
use Rattle.std.proofs.Common.{◌≡◌, ℕ, zero, suc, ◌+◌, ◌<◌, List, [], ◌∷◌, ◌++◌, true, length, Option, None, Some, Result, Ok, Err}
use Rattle.std.proofs.Common.{refl, sym, ap, subst, ◌∙◌, append_assoc, append-nil, arith}
use Rattle.std.proofs.lemmas.List.{length-append}
use Rattle.std.proofs.lemmas.List.Concat.{flat_map-cons}
use Rattle.std.specs.declared.cmp.Ordering.{Ordering}
use Rattle.std.specs.List.{flat_map, AllByRecursion}
use Rattle.tile_fact.specs.declared.fault.FactFault.{FactFault}
use Rattle.tile_fact.specs.Faults.{IsFault}
use Rattle.tile_fact.specs.Order.{RisesBehind}
use Rattle.tile_fact.specs.Reading.{◌>>=◌, is_above, list_read}
use Rattle.tile_fact.proofs.RisingLaws.{last_after, last_of_more, is_above_of}

-- this is known of a value that was read, and a fault is one of the bytes
abbrev pub ReadView : {A : Type 0} → List ℕ → (A → Type 0) → Result A FactFault → Type 0
ReadView bytes P (Ok a) = P a
ReadView bytes P (Err e) = IsFault bytes e

pub then_view : {A B : Type 0} (bytes : List ℕ) (P : A → Type 0) (Q : B → Type 0) (r : Result A FactFault) (f : A → Result B FactFault)
    → ReadView bytes P r → ((a : A) → P a → ReadView bytes Q (f a)) → ReadView bytes Q (r >>= f)
then_view bytes P Q (Ok a) f v next = next a v
then_view bytes P Q (Err e) f v next = v

-- ---- so many things

-- where this is known of things that were read and what is left: of one thing more
abbrev pub IsNext : {X : Type 0} → (List X → List ℕ → Type 0) → List X → X × List ℕ → Type 0
IsNext Front front x = Front (front ++ x.0 ∷ []) x.1

-- the same of so many things in all
abbrev pub AreNext : {X : Type 0} → (List X → List ℕ → Type 0) → ℕ → List X → List X × List ℕ → Type 0
AreNext Front count front xs = Front (front ++ xs.0) xs.1 × (length (front ++ xs.0) ≡ count)

module _
    {X : Type 0} (step : Option X → List ℕ → Result (X × List ℕ) FactFault) (bytes : List ℕ) (count : ℕ)
    (Front : List X → List ℕ → Type 0)
  where
    next_again : (front : List X) (x : X) (others : List X × List ℕ) → AreNext Front count (front ++ x ∷ []) others
        → AreNext Front count front (x ∷ others.0, others.1)
    next_again front x others v =
        subst (λ (l : List X). Front l others.1 × (length l ≡ count)) (append_assoc front (x ∷ []) others.0) v

    module _
        (steps :
        (front : List X) (rest : List ℕ) → length front < count → Front front rest
        → ReadView bytes (IsNext Front front) (step (last_after None front) rest))
      where
        pub list_view : (n : ℕ) (front : List X) (rest : List ℕ) → Front front rest → length front + n ≡ count
            → ReadView bytes (AreNext Front count front) (list_read step n (last_after None front) rest)
        unfolding list_read
        list_view zero front rest h all =
            subst (λ (l : List X). Front l rest × (length l ≡ count)) (sym (append-nil front)) (h, omega arith)
        list_view (suc n) front rest h all =
            then_view bytes (IsNext Front front) (AreNext Front count front) (step (last_after None front) rest)
            (λ first. list_read step n (Some first.0) first.1 >>= λ others. Ok (first.0 ∷ others.0, others.1))
            (steps front rest (omega arith) h)
            (λ x v.
            then_view bytes (AreNext Front count (front ++ x.0 ∷ [])) (AreNext Front count front) (list_read step n (Some x.0) x.1)
            (λ others. Ok (x.0 ∷ others.0, others.1))
            (subst (λ (l : Option X). ReadView bytes (AreNext Front count (front ++ x.0 ∷ [])) (list_read step n l x.1)) (last_of_more None front x.0)
            (list_view n (front ++ x.0 ∷ []) x.1 v (omega (arith, length-append front (x.0 ∷ [])))))
            (λ others w. next_again front x.0 others w))

-- ---- what was written is read again

module _
    {X : Type 0} (step : Option X → List ℕ → Result (X × List ℕ) FactFault) (cmp : X → X → Ordering) (written : X → List ℕ)
    (Good : X → Type 0)
    (again :
    (last : Option X) (x : X) (rest : List ℕ) → Good x → is_above cmp last x ≡ true → step last (written x ++ rest) ≡ Ok (x, rest))
  where
    one_again : (n : ℕ) (last : Option X) (x : X) (behind : List ℕ) → Good x → is_above cmp last x ≡ true
        → list_read step (suc n) last (written x ++ behind)
        ≡ (list_read step n (Some x) behind >>= λ others. Ok (x ∷ others.0, others.1))
    unfolding list_read
    one_again n last x behind good above = rw (again last x behind good above) refl

    pub list_again : (xs : List X) (last : Option X) (rest : List ℕ) → AllByRecursion Good xs → RisesBehind cmp last xs
        → list_read step (length xs) last (flat_map written xs ++ rest) ≡ Ok (xs, rest)
    unfolding list_read
    list_again [] last rest each rise = refl
    list_again (x ∷ xs) last rest each rise =
        let behind = flat_map written xs ++ rest in
        let parts : flat_map written (x ∷ xs) ++ rest ≡ written x ++ behind =
        ap (λ (l : List ℕ). l ++ rest) (flat_map-cons written x xs) ∙ append_assoc (written x) (flat_map written xs) rest in
        ap (list_read step (length (x ∷ xs)) last) parts
        ∙ one_again (length xs) last x behind each.0 (is_above_of cmp last x rise.0)
        ∙ ap (λ r. r >>= λ others. Ok (x ∷ others.0, others.1)) (list_again xs (Some x) rest each.1 rise.1)

pub all_both : {X : Type 0} (P Q : X → Type 0) (xs : List X) → AllByRecursion P xs → AllByRecursion Q xs
    → AllByRecursion (λ x. P x × Q x) xs
all_both P Q [] h k = tt
all_both P Q (x ∷ xs) h k = ((h.0, k.0), all_both P Q xs h.1 k.1)

pub all_more : {X : Type 0} (P : X → Type 0) (xs : List X) (x : X) → AllByRecursion P xs → P x → AllByRecursion P (xs ++ x ∷ [])
all_more P [] x h is = (is, tt)
all_more P (y ∷ ys) x h is = (h.0, all_more P ys x h.1 is)
