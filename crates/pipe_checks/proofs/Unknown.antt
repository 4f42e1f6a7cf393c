-- Lists of which some elements are not known yet.
use Rattle.std.proofs.Common.{ℕ, zero, ◌++◌, IfNone, subst, suc, ◌+◌, ◌<◌, ◌≤◌, ◌≡◌, List, [], ◌∷◌, Option, Some, None, length}
use Rattle.std.proofs.Common.{set, get_or, slice_get, sym, ◌∙◌, ap, refl, arith, is_none, is_some, cond, true, false}
use Rattle.std.proofs.lemmas.Bool.{false≢true}
use Rattle.std.proofs.lemmas.Option.{slice_get_within, slice_get-get_or, get_or_from_slice_get, same_Some, none-some}
use Rattle.std.proofs.lemmas.List.Sums.{sum_by-set, count_by-le-length}
use Rattle.pipe_checks.specs.inside.Search.{unknowns}

-- one less is unknown once one is known
pub unknowns-set : (xs : List (Option ℕ)) (i r : ℕ) → slice_get xs i ≡ Some None → unknowns (set xs i (Some r)) + 1 ≡ unknowns xs
unknowns-set xs i r e =
    let within = slice_get_within xs i None e in
    let none : get_or xs i None ≡ None = get_or_from_slice_get xs i None None e in
    let sum = sum_by-set (λ x. cond (is_none x) 1 0) xs i (Some r) None within in
    omega (arith, sum, one_more none)
  where
    one_more : get_or xs i None ≡ None → ◌≡◌ {A = ℕ} (cond (is_none (get_or xs i None)) 1 0) 1
    one_more e = ap (λ x. cond (is_none x) 1 0) e

pub unknowns-le : (xs : List (Option ℕ)) → unknowns xs ≤ length xs
unknowns-le xs = count_by-le-length is_none xs

pub unknown_at : (xs : List (Option ℕ)) (i : ℕ) → i < length xs → is_some (get_or xs i None) ≡ false → slice_get xs i ≡ Some None
unknown_at xs i h e = by_value (get_or xs i None) refl
  where
    by_value : (o : Option ℕ) → get_or xs i None ≡ o → slice_get xs i ≡ Some None
    by_value None p = slice_get-get_or xs i None h ∙ ap Some p
    by_value (Some r) p = absurd (false≢true (sym (sym (ap is_some p) ∙ e)))

pub known_at : (xs : List (Option ℕ)) (i : ℕ) → is_some (get_or xs i None) ≡ true → slice_get xs i ≡ Some None → ⊥
known_at xs i e none = false≢true (sym (ap is_some (get_or_from_slice_get xs i None None none)) ∙ e)

-- and where there is nothing
pub none_then : {X P Q : Type 0} (o : Option X) → IfNone o P → (P → Q) → IfNone o Q
none_then None p f = f p
none_then (Some x) p f = tt

-- one more at the end
pub pushed : {X : Type 0} (P : ℕ → X → Type 0) (xs : List X) (n : ℕ) (y : X) → length xs ≡ n
    → ((i : ℕ) (d : X) → slice_get xs i ≡ Some d → P i d) → P n y → (i : ℕ) (d : X) → slice_get (xs ++ y ∷ []) i ≡ Some d → P i d
pushed P [] zero y l h here zero d e = subst (P 0) (same_Some y d e) here
pushed P [] zero y l h here (suc i) d e = absurd (none-some d e)
pushed P [] (suc n) y l h here i d e = absurd (omega arith)
pushed P (x ∷ xs) zero y l h here i d e = absurd (omega arith)
pushed P (x ∷ xs) (suc n) y l h here zero d e = h 0 d e
pushed P (x ∷ xs) (suc n) y l h here (suc i) d e = pushed (λ j. P (suc j)) xs n y (omega arith) (λ j. h (suc j)) here i d e
