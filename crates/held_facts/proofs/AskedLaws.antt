-- The least of the keys of which nothing is held.
use Rattle.std.specs.Prelude.{◌≡◌, ◌≢◌, ℕ, ◌+◌, ◌<◌, ◌≤◌, true, false, List, [], ◌∷◌, ◌++◌, Option, Some, None, refl, length}
use Rattle.std.proofs.Common.{ap, sym, ◌∙◌, subst, arith, take, get_or, inl, inr}
use Rattle.std.specs.declared.cmp.Ordering.{Ordering}
use Rattle.std.specs.declared.cmp.Ordering.TheVariants.{Less, Equal, Greater}
use Rattle.std.specs.Option.{MatchOption}
use Rattle.std.specs.Ordering.{is_lt}
use Rattle.std.proofs.lemmas.List.{take_more, take_all}
use Rattle.std.proofs.lemmas.List.Elements.{Contains-append_left, Contains-push, Contains-push_cases}
use Rattle.identity.proofs.KeyLaws.{key_order, equal_keys}
use Rattle.identity.specs.declared.key.Key.{Key}
use Rattle.identity.specs.Keys.{key_cmp}
use Rattle.held_facts.specs.Facts.{FactSet, facts_of}
use Rattle.held_facts.specs.Answers.{IsNotHeld, AreHeld, IsLeastNotHeld}
use Rattle.held_facts.specs.inside.Searching.{is_first}

-- what is found among the keys so far
abbrev pub IsFound : FactSet → List Key → Option Key → Type 0
IsFound s keys found = MatchOption found (AreHeld s keys) (IsLeastNotHeld s keys)

no_length : {X : Type 0} (xs : List X) (n : ℕ) → n ≡ length xs → n ≡ 0 → xs ≡ []
no_length [] n e z = refl
no_length (x ∷ xs) n e z = absurd (omega arith)

some_length : {X : Type 0} (xs : List X) (n : ℕ) → n ≡ length xs → (n ≡ 0 → ⊥) → xs ≡ [] → ⊥
some_length xs n e z none = z (e ∙ ap length none)

pub not_below_itself : (key : Key) → key_cmp key key ≢ Less
not_below_itself key h = absurd (apart (sym ((equal_keys key key).1 refl) ∙ h))
  where
    apart : Equal ≡ Less → ⊥
    apart e = cc

not_first : (key old : Key) → is_lt (key_cmp key old) ≡ false → key_cmp key old ≢ Less
not_first key old e h = absurd (apart (ap is_lt (sym h) ∙ e))
  where
    apart : true ≡ false → ⊥
    apart t = cc

less : (o : Ordering) → is_lt o ≡ true → o ≡ Less
less Less e = refl
less Equal e = cc
less Greater e = cc

-- a key that is held is passed over
held_pushed : (s : FactSet) (keys : List Key) (key : Key) (found : Option Key) → (IsNotHeld s key → ⊥) → IsFound s keys found
    → IsFound s (keys ++ key ∷ []) found
held_pushed s keys key None held h =
    λ other c none. elim (Contains-push_cases keys key other c)
    [ inl was ↦ h other was none | inr is ↦ held (subst (IsNotHeld s) (sym is) none) ]
held_pushed s keys key (Some old) held h =
    record {
      asked = Contains-append_left keys (key ∷ []) old h.asked;
      not_held = h.not_held;
      least =
          λ other c none. elim (Contains-push_cases keys key other c)
          [ inl was ↦ h.least other was none | inr is ↦ absurd (held (subst (IsNotHeld s) (sym is) none)) ];
    }

-- a key that is not held is not below the one found before
later_pushed : (s : FactSet) (keys : List Key) (key old : Key) → key_cmp key old ≢ Less → IsLeastNotHeld s keys old
    → IsLeastNotHeld s (keys ++ key ∷ []) old
later_pushed s keys key old above h =
    record {
      asked = Contains-append_left keys (key ∷ []) old h.asked;
      not_held = h.not_held;
      least =
          λ other c none. elim (Contains-push_cases keys key other c)
          [ inl was ↦ h.least other was none | inr is ↦ subst (λ k. key_cmp k old ≢ Less) is above ];
    }

-- below the least of the keys so far is none of them
under_least : (key old other : Key) → key_cmp key old ≡ Less → key_cmp other old ≢ Less → key_cmp other key ≢ Less
under_least key old other lt above low = above (key_order.trans other key old low lt)

first_pushed : (s : FactSet) (keys : List Key) (key : Key) (found : Option Key) → IsNotHeld s key → is_first key found ≡ true
    → IsFound s keys found → IsLeastNotHeld s (keys ++ key ∷ []) key
first_pushed s keys key None alone is h =
    record {
      asked = Contains-push keys key;
      not_held = alone;
      least =
          λ other c none. elim (Contains-push_cases keys key other c)
          [ inl was ↦ absurd (h other was none) | inr e ↦ subst (λ k. key_cmp k key ≢ Less) e (not_below_itself key) ];
    }
first_pushed s keys key (Some old) alone is h =
    record {
      asked = Contains-push keys key;
      not_held = alone;
      least = λ other c none.
          elim (Contains-push_cases keys key other c) [
            | inl was ↦ under_least key old other (less (key_cmp key old) is) (h.least other was none)
            | inr e ↦ subst (λ k. key_cmp k key ≢ Less) e (not_below_itself key)
          ];
    }

later_found : (s : FactSet) (keys : List Key) (key : Key) (found : Option Key) → is_first key found ≡ false → IsFound s keys found
    → IsFound s (keys ++ key ∷ []) found
later_found s keys key None is h = cc
later_found s keys key (Some old) is h = later_pushed s keys key old (not_first key old is) h

-- ---- one more key
pub found_first : (s : FactSet) (keys : List Key) (i n : ℕ) (key : Key) (found : Option Key) → i < length keys → key ≡ get_or keys i key
    → n ≡ length (facts_of s key) → n ≡ 0
    → is_first key found ≡ true → IsFound s (take i keys) found → IsFound s (take (i + 1) keys) (Some key)
found_first s keys i n key found lt at len zero is h =
    subst (λ ks. IsLeastNotHeld s ks key) (sym (take_more keys i key lt ∙ ap (λ k. take i keys ++ k ∷ []) (sym at)))
    (first_pushed s (take i keys) key found (no_length (facts_of s key) n len zero) is h)

pub found_later : (s : FactSet) (keys : List Key) (i : ℕ) (key : Key) (found : Option Key) → i < length keys → key ≡ get_or keys i key
    → is_first key found ≡ false → IsFound s (take i keys) found → IsFound s (take (i + 1) keys) found
found_later s keys i key found lt at is h =
    subst (λ ks. IsFound s ks found) (sym (take_more keys i key lt ∙ ap (λ k. take i keys ++ k ∷ []) (sym at)))
    (later_found s (take i keys) key found is h)

pub found_held : (s : FactSet) (keys : List Key) (i n : ℕ) (key : Key) (found : Option Key) → i < length keys → key ≡ get_or keys i key
    → n ≡ length (facts_of s key) → (n ≡ 0 → ⊥)
    → IsFound s (take i keys) found → IsFound s (take (i + 1) keys) found
found_held s keys i n key found lt at len some h =
    subst (λ ks. IsFound s ks found) (sym (take_more keys i key lt ∙ ap (λ k. take i keys ++ k ∷ []) (sym at)))
    (held_pushed s (take i keys) key found (some_length (facts_of s key) n len some) h)

-- ---- all keys
pub found_all : (s : FactSet) (keys : List Key) (i : ℕ) (found : Option Key) → length keys ≤ i → IsFound s (take i keys) found
    → IsFound s keys found
found_all s keys i found past h = subst (λ ks. IsFound s ks found) (take_all i keys past) h

pub none_asked : (s : FactSet) → IsFound s [] None
none_asked s = λ key c none. absurd (omega (arith, c.1))
