-- Lists of what is left to make, and facts of keys in states that grow.
use Rattle.std.proofs.Common.{arith, ℕ, ◌≡◌, ◌⊎◌, inl, inr, refl, sym, ap, ◌∙◌, subst, Bool, true, false, cond, Some, None, List}
use Rattle.std.proofs.Common.{[], ◌∷◌, length}
use Rattle.std.specs.Prelude.{◌==◌, find, slice_get}
use Rattle.std.specs.List.{Contains}
use Rattle.std.proofs.lemmas.Bool.{true≢false}
use Rattle.std.proofs.lemmas.List.Elements.{Contains-append_right}
use Rattle.std.proofs.lemmas.Option.{slice_get_within, get_or_from_slice_get}
use Rattle.domains.proofs.PairLists.{Contains-cases, Contains-here}
use Rattle.fact_store.proofs.KeyLaws.{in_facts_of}
use Rattle.identity.specs.declared.key.Key.{Key}
use Rattle.held_facts.specs.Answers.{IsNotHeld}
use Rattle.held_facts.specs.HeldAnswers.{lacks}
use Rattle.held_facts.specs.Facts.{FactSet, IsSubset, facts_of, holds}
use Rattle.tile_fact.specs.declared.fact.Fact.{Fact}

-- ---- lists

pub in_none : {X : Type 0} (x : X) → Contains [] x → ⊥
in_none x h = omega (arith, h.1)

pub in_rest : {X : Type 0} (x : X) (xs : List X) (y : X) → Contains xs y → Contains (x ∷ xs) y
in_rest x xs y h = Contains-append_right (x ∷ []) xs y h

-- where none is found, none passes
pub none_passes : {X : Type 0} (p : X → Bool) (xs : List X) → find p xs ≡ None → (x : X) → Contains xs x → p x ≡ false
none_passes p [] none x h = absurd (in_none x h)
none_passes p (y ∷ ys) none x h = by (p y) refl none (Contains-cases y ys x h) (λ rest. none_passes p ys rest x)
  where
    by : (b : Bool) → p y ≡ b → cond b (Some y) (find p ys) ≡ None → (y ≡ x) ⊎ Contains ys x
        → (find p ys ≡ None → Contains ys x → p x ≡ false) → p x ≡ false
    by true e found at further = absurd (cc)
    by false e rest (inl same) further = sym (ap p same) ∙ e
    by false e rest (inr later) further = further rest later

pub found_in : {X : Type 0} (xs : List X) (i : ℕ) (x : X) → slice_get xs i ≡ Some x → Contains xs x
found_in xs i x there = (i, slice_get_within xs i x there, get_or_from_slice_get xs i x x there)

-- ---- keys of which something is held

pub first_held : (fs : List Fact) → (fs ≡ [] → ⊥) → (f : Fact) × Contains fs f
first_held [] some = absurd (some refl)
first_held (f ∷ fs) some = (f, Contains-here f fs)

pub is_held : (s : FactSet) (key : Key) (f : Fact) → holds s f ≡ true → f.key ≡ key → ¬ IsNotHeld s key
is_held s key f has own none = in_none f (subst (λ fs. Contains fs f) none ((in_facts_of s key f).1 (has, own)))

-- where no fact of the key is lost
pub held_on : (s t : FactSet) (key : Key) → ((f : Fact) → f.key ≡ key → holds s f ≡ true → holds t f ≡ true) → ¬ IsNotHeld s key
    → ¬ IsNotHeld t key
held_on s t key grown some =
    let first = first_held (facts_of s key) some in
    let of = (in_facts_of s key first.0).0 first.1 in
    is_held t key first.0 (grown first.0 of.1 of.0) of.1

pub held_still : (s t : FactSet) (key : Key) → IsSubset s t → ¬ IsNotHeld s key → ¬ IsNotHeld t key
held_still s t key grown = held_on s t key (λ f own. grown f)

pub not_lacked : (s : FactSet) (key : Key) → lacks s key ≡ false → ¬ IsNotHeld s key
not_lacked s key e none = true≢false (sym (ap (λ (fs : List Fact). length fs == 0) none) ∙ e)
