-- The facts of a state, one after another.
use Rattle.std.specs.Prelude.{◌≡◌, ℕ, zero, suc, ◌+◌, ◌<◌, ◌≤◌, List, [], ◌∷◌, ◌++◌, ◌==◌, ◌&&◌, Bool, Some, None, cond, true, false, slice_get, filter, length, refl}
use Rattle.std.proofs.Common.{ap, sym, ◌∙◌, arith, take, add-one, length-append}
use Rattle.std.specs.Int.{from_bool}
use Rattle.std.proofs.lemmas.Bool.{eqb-true}
use Rattle.std.proofs.lemmas.List.{take_more, take_all}
use Rattle.std.proofs.lemmas.List.Filters.{length-filter_more}
use Rattle.std.proofs.lemmas.Option.{slice_get_within, get_or_from_slice_get}
use Rattle.fact_store.proofs.RemoveLaws.{holds-without}
use Rattle.fact_store.proofs.SetLaws.{same_set}
use Rattle.fact_store.proofs.Walks.{first_fact, next_fact}
use Rattle.tile_fact.specs.declared.fact.Fact.{Fact}
use Rattle.identity.specs.declared.job_ids.JobId.{JobId}
use Rattle.held_facts.specs.Facts.{FactSet, facts_in, holds, least, least_above, names_one, without}

-- nothing is copied, and the first one is at hand
pub none_copied : (all out : List Fact) → out ≡ [] → out ≡ take (length out) all
none_copied all out e = e ∙ sym (ap (λ xs. take (length xs) all) e)

pub first_next : (s : FactSet) (out : List Fact) → out ≡ [] → least s ≡ slice_get (facts_in s) (length out)
first_next s out e = first_fact s ∙ ap (λ xs. slice_get (facts_in s) (length xs)) (sym e)

-- one more is copied
pub copied_more : (all out : List Fact) (f : Fact) → out ≡ take (length out) all → slice_get all (length out) ≡ Some f
    → out ++ f ∷ [] ≡ take (length (out ++ f ∷ [])) all
copied_more all out f w e =
    let lt : length out < length all = slice_get_within all (length out) f e in
    let len : length (out ++ f ∷ []) ≡ length out + 1 = length-append out (f ∷ []) in
    ap (λ xs. xs ++ f ∷ []) w ∙ ap (λ g. take (length out) all ++ g ∷ []) (sym (get_or_from_slice_get all (length out) f f e))
    ∙ sym (take_more all (length out) f lt) ∙ ap (λ n. take n all) (sym len)

-- and the next one is at hand
pub next_more : (s : FactSet) (out : List Fact) (f : Fact) → slice_get (facts_in s) (length out) ≡ Some f
    → least_above s f ≡ slice_get (facts_in s) (length (out ++ f ∷ []))
next_more s out f e = next_fact s f (length out) e ∙ ap (slice_get (facts_in s)) (sym (length-append out (f ∷ []) ∙ add-one (length out)))

pub none_left : {X : Type 0} (xs : List X) (i : ℕ) → slice_get xs i ≡ None → length xs ≤ i
none_left [] i e = omega arith
none_left (x ∷ xs) zero e = cc
none_left (x ∷ xs) (suc i) e = omega (arith, none_left xs i e)

pub all_copied : (all out : List Fact) → out ≡ take (length out) all → slice_get all (length out) ≡ None → out ≡ all
all_copied all out w e = w ∙ take_all (length out) all (none_left all (length out) e)

-- ---- facts that pass a test are counted
-- no job names a key
pub none_named : (s : FactSet) (jobs : List JobId) → true ≡ (length jobs == 0) → 0 ≡ length (filter (λ f. names_one jobs f.key) (facts_in s))
none_named s [] e = sym (none_pass (facts_in s))
  where
    none_pass : (xs : List Fact) → length (filter (λ f. names_one [] f.key) xs) ≡ 0
    none_pass [] = refl
    none_pass (x ∷ xs) = none_pass xs
none_named s (j ∷ js) e = let none : suc (length js) ≡ 0 = eqb-true (suc (length js)) 0 (sym e) in absurd (omega (arith, none))

-- and none is taken out
pub none_removed : (s : FactSet) (jobs : List JobId) → true ≡ (length jobs == 0) → s ≡ without s jobs
none_removed s [] e = same_set s (without s []) (λ f. sym (holds-without s [] f ∙ and_true (holds s f)))
  where
    and_true : (a : Bool) → (a && true) ≡ a
    and_true true = refl
    and_true false = refl
none_removed s (j ∷ js) e = let none : suc (length js) ≡ 0 = eqb-true (suc (length js)) 0 (sym e) in absurd (omega (arith, none))

worth : (b : Bool) → from_bool b ≡ cond b 1 0
worth true = refl
worth false = refl

pub one_counted : (p : Fact → Bool) (all : List Fact) (k : ℕ) (f : Fact) (n m : ℕ) → slice_get all k ≡ Some f
    → n ≡ length (filter p (take k all)) → m ≡ n + from_bool (p f) → m ≡ length (filter p (take (k + 1) all))
one_counted p all k f n m here count more =
    more ∙ ap (λ j. n + j) (worth (p f)) ∙ ap (λ j. j + cond (p f) 1 0) count
    ∙ ap (λ g. length (filter p (take k all)) + cond (p g) 1 0) (sym (get_or_from_slice_get all k f f here))
    ∙ sym (length-filter_more p all k f (slice_get_within all k f here))

pub next_at : (s : FactSet) (k : ℕ) (f : Fact) → slice_get (facts_in s) k ≡ Some f → least_above s f ≡ slice_get (facts_in s) (k + 1)
next_at s k f e = next_fact s f k e ∙ ap (slice_get (facts_in s)) (sym (add-one k))

pub all_counted : (p : Fact → Bool) (all : List Fact) (k n : ℕ) → n ≡ length (filter p (take k all)) → slice_get all k ≡ None
    → n ≡ length (filter p all)
all_counted p all k n count e = count ∙ ap (λ xs. length (filter p xs)) (take_all k all (none_left all k e))
