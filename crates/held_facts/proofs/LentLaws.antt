-- What is lent, key by key.
use Rattle.std.specs.Prelude.{◌≡◌, ◌↔◌, ℕ, ◌+◌, ◌<◌, ◌≤◌, ◌&&◌, ◌||◌}
use Rattle.std.specs.Prelude.{Bool, true, false, cond, List, Option, Some, None, refl, slice_get, length}
use Rattle.std.proofs.Common.{ap, sym, ◌∙◌, arith, take}
use Rattle.std.specs.FinMap as map
use Rattle.std.specs.FinMap.{get-retain_keys}
use Rattle.std.specs.List.{list_any, Contains}
use Rattle.std.specs.Option.{is_some}
use Rattle.std.specs.Ordering.{eq_by_cmp}
use Rattle.std.proofs.lemmas.List.{take_all}
use Rattle.std.proofs.lemmas.List.Folds.{list_any_more}
use Rattle.std.proofs.lemmas.Map.Views.{Contains-from_any, list_any-from_Contains}
use Rattle.std.proofs.lemmas.Option.{slice_get_within, get_or_from_slice_get}
use Rattle.fact_store.proofs.KeyLaws.{one_key, key_equiv, any_of_key}
use Rattle.fact_store.proofs.SetLaws.{same_set, holds-nothing, holds-with_fact, split}
use Rattle.fact_store.proofs.SortedLaws.{both}
use Rattle.identity.specs.declared.key.Key.{Key}
use Rattle.tile_fact.proofs.OrderLaws as order
use Rattle.tile_fact.specs.declared.fact.Fact.{Fact}
use Rattle.tile_fact.specs.Order.{fact_cmp}
use Rattle.fact_store.specs.Facts.{holds}
use Rattle.held_facts.specs.Facts.{FactSet, nothing, with_fact, facts_of, lent, same_key, is_among}
use Rattle.held_facts.proofs.ListLaws.{none_left}

kept : (b : Bool) (x : Option (Unit {0})) → is_some (cond b x None) ≡ (is_some x && b)
kept true None = refl
kept true (Some u) = refl
kept false None = refl
kept false (Some u) = refl

pub holds-lent : (s : FactSet) (keys : List Key) (f : Fact) → holds (lent s keys) f ≡ (holds s f && is_among keys f.key)
unfolding holds lent
holds-lent s keys f =
    ap is_some (get-retain_keys s wanted f (λ g e. ap wanted (sym (order.same_fact f g e)))) ∙ kept (wanted f) (map.get s f)
  where
    wanted : Fact → Bool
    wanted g = is_among keys g.key

pub in_lent : (s : FactSet) (keys : List Key) (f : Fact) → (holds (lent s keys) f ≡ true) ↔ ((holds s f ≡ true) × Contains keys f.key)
in_lent s keys f = (
  λ h. let parts = split (holds s f) (is_among keys f.key) (sym (holds-lent s keys f) ∙ h) in
      (parts.0, Contains-from_any one_key f.key keys parts.1),
  λ h. holds-lent s keys f ∙ both (holds s f) (is_among keys f.key) h.0 (list_any-from_Contains key_equiv f.key keys h.1),
)

-- ---- the facts of one key
any_more : {X : Type 0} (p : X → Bool) (xs : List X) (i : ℕ) (x : X) → slice_get xs i ≡ Some x
    → list_any p (take (i + 1) xs) ≡ (list_any p (take i xs) || p x)
any_more p xs i x e =
    list_any_more p xs i x (slice_get_within xs i x e) ∙ ap (λ y. list_any p (take i xs) || p y) (get_or_from_slice_get xs i x x e)

turn : (a b c : Bool) → (c || (a || b)) ≡ (a || (b || c))
turn true b true = refl
turn true b false = refl
turn false true true = refl
turn false true false = refl
turn false false true = refl
turn false false false = refl

-- one more fact of a list is taken
pub taken_more : (start now : FactSet) (xs : List Fact) (i : ℕ) (f : Fact) → slice_get xs i ≡ Some f
    → ((g : Fact) → holds now g ≡ (holds start g || list_any (eq_by_cmp fact_cmp g) (take i xs)))
    → (g : Fact) → holds (with_fact now f) g ≡ (holds start g || list_any (eq_by_cmp fact_cmp g) (take (i + 1) xs))
taken_more start now xs i f e h g =
    holds-with_fact now f g ∙ ap (λ b. eq_by_cmp fact_cmp g f || b) (h g)
    ∙ turn (holds start g) (list_any (eq_by_cmp fact_cmp g) (take i xs)) (eq_by_cmp fact_cmp g f)
    ∙ ap (λ b. holds start g || b) (sym (any_more (eq_by_cmp fact_cmp g) xs i f e))

pub taken_all : (start now s : FactSet) (key : Key) (n : ℕ) → length (facts_of s key) ≤ n
    → ((g : Fact) → holds now g ≡ (holds start g || list_any (eq_by_cmp fact_cmp g) (take n (facts_of s key))))
    → (g : Fact) → holds now g ≡ (holds start g || (holds s g && same_key key g.key))
taken_all start now s key n all h g =
    h g ∙ ap (λ xs. holds start g || list_any (eq_by_cmp fact_cmp g) xs) (take_all n (facts_of s key) all)
    ∙ ap (λ b. holds start g || b) (any_of_key s key g)

pub none_after : {X : Type 0} (xs : List X) (i n : ℕ) → n ≡ length xs → i < n → slice_get xs i ≡ None → i < i
none_after xs i n e lt none = omega (arith, none_left xs i none)

-- ---- key after key
both_kept : (h a b : Bool) → ((h && a) || (h && b)) ≡ (h && (a || b))
both_kept true a b = refl
both_kept false a b = refl

-- the facts of one more key are taken
pub lent_more : (s before now : FactSet) (keys : List Key) (i : ℕ) (key : Key) → slice_get keys i ≡ Some key
    → ((f : Fact) → holds before f ≡ (holds s f && is_among (take i keys) f.key))
    → ((f : Fact) → holds now f ≡ (holds before f || (holds s f && same_key key f.key)))
    → (f : Fact) → holds now f ≡ (holds s f && is_among (take (i + 1) keys) f.key)
lent_more s before now keys i key e h step f =
    step f ∙ ap (λ b. b || (holds s f && same_key key f.key)) (h f)
    ∙ ap (λ b. (holds s f && is_among (take i keys) f.key) || (holds s f && b)) (key_equiv.symm key f.key)
    ∙ both_kept (holds s f) (is_among (take i keys) f.key) (same_key f.key key)
    ∙ ap (λ b. holds s f && b) (sym (any_more (same_key f.key) keys i key e))

pub lent_all : (s now : FactSet) (keys : List Key) (n : ℕ) → length keys ≤ n
    → ((f : Fact) → holds now f ≡ (holds s f && is_among (take n keys) f.key)) → now ≡ lent s keys
lent_all s now keys n past h =
    same_set now (lent s keys) (λ f. h f ∙ ap (λ ks. holds s f && is_among ks f.key) (take_all n keys past) ∙ sym (holds-lent s keys f))

nothing_and : (b : Bool) → (b && false) ≡ false
nothing_and true = refl
nothing_and false = refl

pub lent_none : (s : FactSet) (f : Fact) → holds nothing f ≡ (holds s f && false)
lent_none s f = holds-nothing f ∙ sym (nothing_and (holds s f))
