-- The facts of a set by their keys, and those that another set lacks.
use Rattle.std.specs.Prelude.{◌≡◌, ◌↔◌, ◌&&◌, ◌||◌, Bool, true, false, cond, not, List, [], ◌∷◌, refl, filter}
use Rattle.std.proofs.Common.{ap, sym, ◌∙◌}
use Rattle.std.specs.Cmp.{IsEquivalence, Equal-is, eq_by_cmp_equiv}
use Rattle.std.specs.List.{list_any, Contains}
use Rattle.std.specs.Ordering.{eq_by_cmp, is_eq}
use Rattle.std.proofs.lemmas.Cmp.{tied_itself}
use Rattle.std.proofs.lemmas.Map.Views.{Contains-from_any, list_any-from_Contains}
use Rattle.identity.proofs.KeyLaws as keys
use Rattle.identity.proofs.KeyLaws.{key_order}
use Rattle.identity.specs.declared.key.Key.{Key}
use Rattle.identity.specs.Keys.{key_cmp}
use Rattle.tile_fact.proofs.OrderLaws.{fact_order}
use Rattle.tile_fact.specs.declared.fact.Fact.{Fact}
use Rattle.tile_fact.specs.Order.{fact_cmp}
use Rattle.fact_store.proofs.SetLaws.{same_fact, holds-facts_in, split}
use Rattle.fact_store.proofs.SortedLaws.{both}
use Rattle.fact_store.specs.Facts.{FactSet, holds, facts_in, facts_of, lacked, same_key}

-- ---- keys
pub one_key : (a b : Key) → same_key a b ≡ true → a ≡ b
one_key a b e = keys.same_key a b ((Equal-is (key_cmp a b)).0 e)

pub its_own_key : (a b : Key) → a ≡ b → same_key a b ≡ true
its_own_key a b e = ap (same_key a) (sym e) ∙ ap is_eq (tied_itself key_order a)

pub key_equiv : IsEquivalence same_key
key_equiv = eq_by_cmp_equiv key_order

-- ---- what passes a test
one_dropped : (a b c : Bool) → (a ≡ true → c ≡ false) → (b && c) ≡ ((a || b) && c)
one_dropped true true c h = refl
one_dropped true false c h = sym (h refl)
one_dropped false b c h = refl

pub any_filter : (p : Fact → Bool) (g : Fact) (xs : List Fact)
    → list_any (eq_by_cmp fact_cmp g) (filter p xs) ≡ (list_any (eq_by_cmp fact_cmp g) xs && p g)
any_filter p g [] = refl
any_filter p g (x ∷ xs) =
    elim (p x) as (λ b. p x ≡ b
    → list_any (eq_by_cmp fact_cmp g) (cond b (x ∷ filter p xs) (filter p xs))
    ≡ ((eq_by_cmp fact_cmp g x || list_any (eq_by_cmp fact_cmp g) xs) && p g)) [
      | true ↦ λ e. ap (λ b. eq_by_cmp fact_cmp g x || b) (any_filter p g xs) ∙ held e (eq_by_cmp fact_cmp g x) refl
      | false ↦
          λ e. any_filter p g xs
          ∙ one_dropped (eq_by_cmp fact_cmp g x) (list_any (eq_by_cmp fact_cmp g) xs) (p g) (λ t. ap p (same_fact g x t) ∙ e)
    ] refl
  where
    held : p x ≡ true → (a : Bool) → eq_by_cmp fact_cmp g x ≡ a
        → (a || (list_any (eq_by_cmp fact_cmp g) xs && p g)) ≡ ((a || list_any (eq_by_cmp fact_cmp g) xs) && p g)
    held e true t = sym (ap p (same_fact g x t) ∙ e)
    held e false t = refl

-- the facts of a key
pub any_of_key : (s : FactSet) (key : Key) (g : Fact) → list_any (eq_by_cmp fact_cmp g) (facts_of s key) ≡ (holds s g && same_key key g.key)
unfolding facts_of
any_of_key s key g = any_filter (λ f. same_key key f.key) g (facts_in s) ∙ ap (λ b. b && same_key key g.key) (sym (holds-facts_in s g))

pub any_lacked : (s t : FactSet) (g : Fact) → list_any (eq_by_cmp fact_cmp g) (lacked s t) ≡ (holds t g && not (holds s g))
unfolding lacked
any_lacked s t g = any_filter (λ f. not (holds s f)) g (facts_in t) ∙ ap (λ b. b && not (holds s g)) (sym (holds-facts_in t g))

-- ---- as members of a list
listed : (xs : List Fact) (f : Fact) → (list_any (eq_by_cmp fact_cmp f) xs ≡ true) ↔ Contains xs f
listed xs f = (Contains-from_any same_fact f xs, list_any-from_Contains (eq_by_cmp_equiv fact_order) f xs)

pub in_facts : (s : FactSet) (f : Fact) → Contains (facts_in s) f ↔ (holds s f ≡ true)
in_facts s f = (λ c. holds-facts_in s f ∙ (listed (facts_in s) f).1 c, λ h. (listed (facts_in s) f).0 (sym (holds-facts_in s f) ∙ h))

pub in_facts_of : (s : FactSet) (key : Key) (f : Fact) → Contains (facts_of s key) f ↔ ((holds s f ≡ true) × (f.key ≡ key))
in_facts_of s key f = (
  λ c. let parts = split (holds s f) (same_key key f.key) (sym (any_of_key s key f) ∙ (listed (facts_of s key) f).1 c) in
      (parts.0, sym (one_key key f.key parts.1)),
  λ h. (listed (facts_of s key) f).0 (any_of_key s key f ∙ both (holds s f) (same_key key f.key) h.0 (its_own_key key f.key (sym h.1))),
)

denied : (b : Bool) → not b ≡ true → b ≡ false
denied true e = sym e
denied false e = refl

pub in_lacked : (s t : FactSet) (f : Fact) → Contains (lacked s t) f ↔ ((holds t f ≡ true) × (holds s f ≡ false))
in_lacked s t f = (
  λ c. let parts = split (holds t f) (not (holds s f)) (sym (any_lacked s t f) ∙ (listed (lacked s t) f).1 c) in
      (parts.0, denied (holds s f) parts.1),
  λ h. (listed (lacked s t) f).0 (any_lacked s t f ∙ both (holds t f) (not (holds s f)) h.0 (ap not h.1)),
)
