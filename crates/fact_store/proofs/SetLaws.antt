-- Sets of facts that have the same facts are one, and join is their least upper bound.
use Rattle.std.specs.Prelude.{◌≡◌, ◌||◌, ◌&&◌, Bool, true, false, cond, List, [], ◌∷◌, Option, None, Some, refl, map, T, ◌⊎◌, ◌↔◌}
use Rattle.std.proofs.Common.{ap, sym, ◌∙◌, inl, inr}
use Rattle.std.specs.Cmp.{Equal-is}
use Rattle.std.specs.declared.cmp.Ordering.{Ordering}
use Rattle.std.specs.declared.cmp.Ordering.TheVariants.{Less, Equal, Greater}
use Rattle.std.specs.FinMap as map_
use Rattle.std.specs.FinMap.{get-insert, get-empty, same_map, contains_key-keys, is_sorted}
use Rattle.std.specs.FinMap.Entries.{below_all}
use Rattle.std.specs.List.{list_any}
use Rattle.std.specs.Option.{is_some}
use Rattle.std.specs.Ordering.{eq_by_cmp, is_eq, is_lt}
use Rattle.std.proofs.lemmas.Cmp.{tied_itself}
use Rattle.tile_fact.proofs.OrderLaws as order
use Rattle.tile_fact.proofs.OrderLaws.{fact_order}
use Rattle.tile_fact.specs.declared.fact.Fact.{Fact}
use Rattle.tile_fact.specs.Order.{fact_cmp, Rises, RisesAbove}
use Rattle.fact_store.specs.Facts.{FactSet, nothing, holds, facts_in, with_fact, with_facts, join, IsSubset}
use Rattle.fact_store.specs.inside.SortedLists.{rises, below_each}

-- ---- facts that tie are one
pub same_fact : (f g : Fact) → eq_by_cmp fact_cmp f g ≡ true → f ≡ g
same_fact f g e = order.same_fact f g ((Equal-is (fact_cmp f g)).0 e)

-- ---- what is in a set
or_false : (a : Bool) → (a || false) ≡ a
or_false true = refl
or_false false = refl

marked : (b : Bool) (x : Option (Unit {0})) → is_some (cond b (Some tt) x) ≡ (b || is_some x)
marked true x = refl
marked false x = refl

mark : (x y : Option (Unit {0})) → is_some x ≡ is_some y → x ≡ y
mark None None e = refl
mark None (Some u) e = cc
mark (Some u) None e = cc
mark (Some u) (Some v) e = refl

pub same_set : (s t : FactSet) → ((f : Fact) → holds s f ≡ holds t f) → s ≡ t
unfolding holds
same_set s t h = same_map fact_order order.same_fact s t (λ f. mark (map_.get s f) (map_.get t f) (h f))

pub holds-nothing : (f : Fact) → holds nothing f ≡ false
unfolding holds nothing
holds-nothing f = ap is_some (get-empty fact_cmp f)

pub holds-with_fact : (s : FactSet) (f g : Fact) → holds (with_fact s f) g ≡ (eq_by_cmp fact_cmp g f || holds s g)
unfolding holds with_fact
holds-with_fact s f g = ap is_some (get-insert fact_order s f tt g) ∙ marked (eq_by_cmp fact_cmp g f) (map_.get s g)

pub holds-facts_in : (s : FactSet) (f : Fact) → holds s f ≡ list_any (eq_by_cmp fact_cmp f) (facts_in s)
unfolding holds facts_in
holds-facts_in s f = contains_key-keys s f

or_swap : (a b c : Bool) → (a || (b || c)) ≡ (b || (a || c))
or_swap true true c = refl
or_swap true false c = refl
or_swap false b c = refl

pub holds-with_facts : (s : FactSet) (fs : List Fact) (g : Fact)
    → holds (with_facts s fs) g ≡ (holds s g || list_any (eq_by_cmp fact_cmp g) fs)
unfolding with_facts
holds-with_facts s [] g = sym (or_false (holds s g))
holds-with_facts s (f ∷ fs) g =
    holds-with_fact (with_facts s fs) f g ∙ ap (λ b. eq_by_cmp fact_cmp g f || b) (holds-with_facts s fs g)
    ∙ or_swap (eq_by_cmp fact_cmp g f) (holds s g) (list_any (eq_by_cmp fact_cmp g) fs)

pub holds-join : (s t : FactSet) (f : Fact) → holds (join s t) f ≡ (holds s f || holds t f)
unfolding join
holds-join s t f = holds-with_facts s (facts_in t) f ∙ ap (λ b. holds s f || b) (sym (holds-facts_in t f))

there_already : (a b : Bool) → (a ≡ true → b ≡ true) → b ≡ (a || b)
there_already true b h = h refl
there_already false b h = refl

-- a fact that is held adds nothing
pub with_held : (s : FactSet) (f : Fact) → holds s f ≡ true → with_fact s f ≡ s
with_held s f h =
    same_set _ _
    (λ g. holds-with_fact s f g ∙ sym (there_already (eq_by_cmp fact_cmp g f) (holds s g) (λ e. ap (holds s) (same_fact g f e) ∙ h)))

-- ---- join
or_comm : (a b : Bool) → (a || b) ≡ (b || a)
or_comm true true = refl
or_comm true false = refl
or_comm false true = refl
or_comm false false = refl

or_assoc : (a b c : Bool) → ((a || b) || c) ≡ (a || (b || c))
or_assoc true b c = refl
or_assoc false b c = refl

or_idem : (a : Bool) → (a || a) ≡ a
or_idem true = refl
or_idem false = refl

or_left : (a b : Bool) → a ≡ true → (a || b) ≡ true
or_left a b e = ap (λ c. c || b) e

or_cases : (a b : Bool) → (a || b) ≡ true → (a ≡ true) ⊎ (b ≡ true)
or_cases true b e = inl refl
or_cases false b e = inr e

pub join_comm : (s t : FactSet) → join s t ≡ join t s
join_comm s t = same_set _ _ (λ f. holds-join s t f ∙ or_comm (holds s f) (holds t f) ∙ sym (holds-join t s f))

pub join_assoc : (s t u : FactSet) → join (join s t) u ≡ join s (join t u)
join_assoc s t u =
    same_set _ _
    (λ f. holds-join (join s t) u f ∙ ap (λ b. b || holds u f) (holds-join s t f) ∙ or_assoc (holds s f) (holds t f) (holds u f)
    ∙ sym (holds-join s (join t u) f ∙ ap (λ b. holds s f || b) (holds-join t u f)))

pub join_idem : (s : FactSet) → join s s ≡ s
join_idem s = same_set _ _ (λ f. holds-join s s f ∙ or_idem _)

pub join_nothing : (s : FactSet) → join s nothing ≡ s
join_nothing s = same_set _ _ (λ f. holds-join s nothing f ∙ ap (λ b. holds s f || b) (holds-nothing f) ∙ or_false _)

pub nothing_join : (s : FactSet) → join nothing s ≡ s
nothing_join s = join_comm nothing s ∙ join_nothing s

pub subset_left : (s t : FactSet) → IsSubset s (join s t)
subset_left s t f h = holds-join s t f ∙ or_left _ _ h

pub subset_right : (s t : FactSet) → IsSubset t (join s t)
subset_right s t f h = holds-join s t f ∙ or_comm (holds s f) (holds t f) ∙ or_left (holds t f) (holds s f) h

pub in_join : (s t : FactSet) (f : Fact) → holds (join s t) f ≡ true → (holds s f ≡ true) ⊎ (holds t f ≡ true)
in_join s t f h = or_cases _ _ (sym (holds-join s t f) ∙ h)

pub join_has : (s t : FactSet) (f : Fact) → (holds s f ≡ true) ⊎ (holds t f ≡ true) → holds (join s t) f ≡ true
join_has s t f h = elim h [ inl e ↦ subset_left s t f e | inr e ↦ subset_right s t f e ]

pub join_least : (s t u : FactSet) → IsSubset s u → IsSubset t u → IsSubset (join s t) u
join_least s t u p q f h = elim (in_join s t f h) [ inl e ↦ p f e | inr e ↦ q f e ]

pub same_holders : (s t : FactSet) → ((f : Fact) → (holds s f ≡ true) ↔ (holds t f ≡ true)) → s ≡ t
same_holders s t h = same_set s t (λ f. both_ways (holds s f) (holds t f) ((h f).0) ((h f).1))
  where
    both_ways : (a b : Bool) → (a ≡ true → b ≡ true) → (b ≡ true → a ≡ true) → a ≡ b
    both_ways true true h k = refl
    both_ways true false h k = sym (h refl)
    both_ways false true h k = k refl
    both_ways false false h k = refl

pub same_subsets : (s t : FactSet) → IsSubset s t → IsSubset t s → s ≡ t
same_subsets s t p q = same_holders s t (λ f. (p f, q f))

-- ---- one more fact
ties : (f g : Fact) → f ≡ g → eq_by_cmp fact_cmp f g ≡ true
ties f g e = ap (eq_by_cmp fact_cmp f) (sym e) ∙ ap is_eq (tied_itself fact_order f)

pub in_with_fact : (s : FactSet) (f g : Fact) → holds (with_fact s f) g ≡ true → (g ≡ f) ⊎ (holds s g ≡ true)
in_with_fact s f g h =
    elim (or_cases (eq_by_cmp fact_cmp g f) (holds s g) (sym (holds-with_fact s f g) ∙ h)) [ inl e ↦ inl (same_fact g f e) | inr e ↦ inr e ]

pub with_fact_has : (s : FactSet) (f g : Fact) → (g ≡ f) ⊎ (holds s g ≡ true) → holds (with_fact s f) g ≡ true
with_fact_has s f g h =
    holds-with_fact s f g
    ∙ elim h [
      | inl e ↦ or_left (eq_by_cmp fact_cmp g f) (holds s g) (ties g f e)
      | inr e ↦ or_comm (eq_by_cmp fact_cmp g f) (holds s g) ∙ or_left (holds s g) (eq_by_cmp fact_cmp g f) e
    ]

pub with_swapped : (s : FactSet) (f g : Fact) → with_fact (with_fact s f) g ≡ with_fact (with_fact s g) f
with_swapped s f g =
    same_set _ _ (λ h. holds-with_fact (with_fact s f) g h ∙ ap (λ b. eq_by_cmp fact_cmp h g || b) (holds-with_fact s f h)
    ∙ or_swap (eq_by_cmp fact_cmp h g) (eq_by_cmp fact_cmp h f) (holds s h)
    ∙ sym (holds-with_fact (with_fact s g) f h ∙ ap (λ b. eq_by_cmp fact_cmp h f || b) (holds-with_fact s g h)))

pub with_twice : (s : FactSet) (f : Fact) → with_fact (with_fact s f) f ≡ with_fact s f
with_twice s f = with_held (with_fact s f) f (with_fact_has s f f (inl refl))

pub join_one_more : (s t : FactSet) (f : Fact) → join s (with_fact t f) ≡ with_fact (join s t) f
join_one_more s t f =
    same_set _ _ (λ h. holds-join s (with_fact t f) h ∙ ap (λ b. holds s h || b) (holds-with_fact t f h)
    ∙ or_swap (holds s h) (eq_by_cmp fact_cmp h f) (holds t h)
    ∙ sym (holds-with_fact (join s t) f h ∙ ap (λ b. eq_by_cmp fact_cmp h f || b) (holds-join s t h)))

-- ---- the facts of a set rise
pub split : (a b : Bool) → (a && b) ≡ true → (a ≡ true) × (b ≡ true)
split true b h = (refl, h)
split false b h = cc

shown : (b : Bool) → T b → b ≡ true
shown true h = refl
shown false h = absurd h

abbrev firsts : List (Fact × Unit {0}) → List Fact
firsts es = map (λ (e : Fact × Unit {0}). e.0) es

below_same : (x : Fact) (es : List (Fact × Unit {0})) → below_each x (firsts es) ≡ below_all fact_cmp x es
below_same x [] = refl
below_same x (e ∷ es) = ap (λ b. is_lt (fact_cmp x e.0) && b) (below_same x es)

rises_same : (es : List (Fact × Unit {0})) → rises (firsts es) ≡ is_sorted fact_cmp es
rises_same [] = refl
rises_same (e ∷ es) = ap (λ b. b && rises (firsts es)) (below_same e.0 es) ∙ ap (λ b. below_all fact_cmp e.0 es && b) (rises_same es)

pub rises-facts_in : (s : FactSet) → rises (facts_in s) ≡ true
unfolding facts_in
rises-facts_in s = rises_same (map_.entries s) ∙ shown (is_sorted fact_cmp (map_.entries s)) (map_.entries_sorted s)

pub less : (o : Ordering) → is_lt o ≡ true → o ≡ Less
less Less e = refl
less Equal e = cc
less Greater e = cc

rise_above : (x : Fact) (xs : List Fact) → below_each x xs ≡ true → rises xs ≡ true → RisesAbove (Some x) xs
rise_above x [] low h = tt
rise_above x (y ∷ ys) low h =
    let parts = split (below_each y ys) (rises ys) h in
    (less (fact_cmp x y) ((split (is_lt (fact_cmp x y)) (below_each x ys) low).0), rise_above y ys parts.0 parts.1)

pub each_above : (xs : List Fact) → rises xs ≡ true → Rises xs
each_above [] h = tt
each_above (x ∷ xs) h = let parts = split (below_each x xs) (rises xs) h in (tt, rise_above x xs parts.0 parts.1)

-- in the order of fact files
pub facts_rise : (s : FactSet) → Rises (facts_in s)
facts_rise s = each_above (facts_in s) (rises-facts_in s)
