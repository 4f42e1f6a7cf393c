-- Join over states with retirements.
use Rattle.std.specs.Prelude.{◌≡◌, ◌||◌, ◌&&◌, ◌⊎◌, Bool, true, false, cond, not, Option, Some, None, refl}
use Rattle.std.proofs.Common.{ap, sym, ◌∙◌, inl, inr}
use Rattle.std.proofs.lemmas.Bool.{true≢false}
use Rattle.std.specs.FinMap as map
use Rattle.std.specs.FinMap.{get-retain_keys}
use Rattle.std.specs.Option.{is_some}
use Rattle.tile_fact.proofs.OrderLaws as order
use Rattle.tile_fact.specs.declared.fact.Fact.{Fact}
use Rattle.fact_store.specs.Facts as sets
use Rattle.fact_store.specs.Facts.{FactSet}
use Rattle.fact_store.proofs.SetLaws as laws
use Rattle.identity.specs.declared.job_ids.JobId.{JobId}
use Rattle.identity.specs.Keys.{ids_in}
use Rattle.states.specs.IdSets.{IdSet, union}
use Rattle.states.specs.States.{State, IsBelow, IsState, holds, is_of, join, nothing, retires, without}
use Rattle.states.proofs.IdLaws.{has-no_ids, has-union, same_id_set}

-- ---- truth values
pub no : (p : Bool) → (p && false) ≡ false
no true = refl
no false = refl

pub yes : (p : Bool) → (p && true) ≡ p
yes true = refl
yes false = refl

pub or_comm : (a b : Bool) → (a || b) ≡ (b || a)
or_comm true true = refl
or_comm true false = refl
or_comm false true = refl
or_comm false false = refl

pub or_assoc : (a b c : Bool) → ((a || b) || c) ≡ (a || (b || c))
or_assoc true b c = refl
or_assoc false b c = refl

pub or_idem : (a : Bool) → (a || a) ≡ a
or_idem true = refl
or_idem false = refl

pub or_false : (a : Bool) → (a || false) ≡ a
or_false true = refl
or_false false = refl

pub or_cases : (a b : Bool) → (a || b) ≡ true → (a ≡ true) ⊎ (b ≡ true)
or_cases true b e = inl refl
or_cases false b e = inr e

pub or_left : (a b : Bool) → a ≡ true → (a || b) ≡ true
or_left true b e = refl
or_left false b e = absurd (true≢false (sym e))

pub or_right : (a b : Bool) → b ≡ true → (a || b) ≡ true
or_right true b e = refl
or_right false b e = e

pub split : (a b : Bool) → (a && b) ≡ true → (a ≡ true) × (b ≡ true)
split true b h = (refl, h)
split false b h = absurd (true≢false (sym h))

pub both : (a b : Bool) → a ≡ true → b ≡ true → (a && b) ≡ true
both true b p q = q
both false b p q = absurd (true≢false (sym p))

pub denied : (b : Bool) → not b ≡ true → b ≡ false
denied true e = absurd (true≢false (sym e))
denied false e = refl

pub deny : (b : Bool) → b ≡ false → not b ≡ true
deny b e = ap not e

pub neither : (a b : Bool) → (a || b) ≡ false → (a ≡ false) × (b ≡ false)
neither true b e = absurd (true≢false e)
neither false b e = (refl, e)

pub or_none : (a b : Bool) → a ≡ false → b ≡ false → (a || b) ≡ false
or_none true b p q = absurd (true≢false p)
or_none false b p q = q

pub clash : {P : Type 0} (b : Bool) → b ≡ true → b ≡ false → P
clash b t f = absurd (true≢false (sym t ∙ f))

both_ways : (a b : Bool) → (a ≡ true → b ≡ true) → (b ≡ true → a ≡ true) → a ≡ b
both_ways true true h k = refl
both_ways true false h k = sym (h refl)
both_ways false true h k = k refl
both_ways false false h k = refl

-- ---- states are what they have
pub same_state : (s t : State) → ((f : Fact) → holds s f ≡ holds t f) → ((i : JobId) → retires s i ≡ retires t i) → s ≡ t
same_state s t facts ids =
    let p : s.facts ≡ t.facts = laws.same_set s.facts t.facts facts in
    let q : s.retired ≡ t.retired = same_id_set s.retired t.retired ids in
    (λ i. record { facts = p i; retired = q i })

-- ---- what a join has
kept : (b : Bool) (x : Option (Unit {0})) → is_some (cond b x None) ≡ (is_some x && b)
kept true None = refl
kept true (Some u) = refl
kept false None = refl
kept false (Some u) = refl

pub holds-without : (s : FactSet) (ids : IdSet) (f : Fact) → sets.holds (without s ids) f ≡ (sets.holds s f && not (is_of ids f))
unfolding sets.holds without
holds-without s ids f = ap is_some (get-retain_keys s left f (λ g e. ap left (sym (order.same_fact f g e)))) ∙ kept (left f) (map.get s f)
  where
    left : Fact → Bool
    left g = not (is_of ids g)

pub retires-join : (s t : State) (i : JobId) → retires (join s t) i ≡ (retires s i || retires t i)
retires-join s t i = has-union s.retired t.retired i

pub holds-join : (s t : State) (f : Fact)
    → holds (join s t) f ≡ ((holds s f || holds t f) && not (retires s (ids_in f.key) || retires t (ids_in f.key)))
holds-join s t f =
    holds-without (sets.join s.facts t.facts) (union s.retired t.retired) f
    ∙ ap (λ a. a && not (is_of (union s.retired t.retired) f)) (laws.holds-join s.facts t.facts f)
    ∙ ap (λ b. (holds s f || holds t f) && not b) (has-union s.retired t.retired (ids_in f.key))

-- ---- its laws
exchanged : (a b x y : Bool) → ((a || b) && not (x || y)) ≡ ((b || a) && not (y || x))
exchanged a b x y = ap (λ c. c && not (x || y)) (or_comm a b) ∙ ap (λ z. (b || a) && not z) (or_comm x y)

pub join_comm : (s t : State) → join s t ≡ join t s
join_comm s t =
    same_state (join s t) (join t s)
    (λ f. holds-join s t f ∙ exchanged (holds s f) (holds t f) (retires s (ids_in f.key)) (retires t (ids_in f.key)) ∙ sym (holds-join t s f))
    (λ i. retires-join s t i ∙ or_comm (retires s i) (retires t i) ∙ sym (retires-join t s i))

-- to leave out at each join is to leave out at the end
grouped : (a b c x y z : Bool)
    → ((((a || b) && not (x || y)) || c) && not ((x || y) || z)) ≡ ((a || ((b || c) && not (y || z))) && not (x || (y || z)))
grouped a b c true y z = no _ ∙ sym (no _)
grouped a b c false true z = no _ ∙ sym (no _)
grouped a b c false false true = no _ ∙ sym (no _)
grouped true b c false false false = refl
grouped false true c false false false = refl
grouped false false true false false false = refl
grouped false false false false false false = refl

pub join_assoc : (s t u : State) → join (join s t) u ≡ join s (join t u)
join_assoc s t u =
    same_state (join (join s t) u) (join s (join t u))
    (λ f. by f (ids_in f.key))
    (λ i. retires-join (join s t) u i ∙ ap (λ b. b || retires u i) (retires-join s t i)
    ∙ or_assoc (retires s i) (retires t i) (retires u i)
    ∙ sym (retires-join s (join t u) i ∙ ap (λ b. retires s i || b) (retires-join t u i)))
  where
    by : (f : Fact) (i : JobId) → holds (join (join s t) u) f ≡ holds (join s (join t u)) f
    by f i =
        let j : JobId = ids_in f.key in
        holds-join (join s t) u f
        ∙ ap (λ a. (a || holds u f) && not (retires (join s t) j || retires u j)) (holds-join s t f)
        ∙ ap (λ b. (((holds s f || holds t f) && not (retires s j || retires t j)) || holds u f) && not (b || retires u j))
        (retires-join s t j)
        ∙ grouped (holds s f) (holds t f) (holds u f) (retires s j) (retires t j) (retires u j)
        ∙ sym (holds-join s (join t u) f
        ∙ ap (λ a. (holds s f || a) && not (retires s j || retires (join t u) j)) (holds-join t u f)
        ∙ ap (λ b. (holds s f || ((holds t f || holds u f) && not (retires t j || retires u j))) && not (retires s j || b))
        (retires-join t u j))

with_itself : (a x : Bool) → (a ≡ true → x ≡ false) → ((a || a) && not (x || x)) ≡ a
with_itself true true h = absurd (true≢false (h refl))
with_itself true false h = refl
with_itself false x h = refl

pub join_idem : (s : State) → IsState s → join s s ≡ s
join_idem s is =
    same_state (join s s) s
    (λ f. holds-join s s f ∙ with_itself (holds s f) (retires s (ids_in f.key)) (is f))
    (λ i. retires-join s s i ∙ or_idem (retires s i))

with_none : (a x : Bool) → (a ≡ true → x ≡ false) → ((a || false) && not (x || false)) ≡ a
with_none true true h = absurd (true≢false (h refl))
with_none true false h = refl
with_none false x h = refl

pub join_nothing : (s : State) → IsState s → join s nothing ≡ s
join_nothing s is =
    same_state (join s nothing) s
    (λ f. holds-join s nothing f
    ∙ ap (λ b. (holds s f || b) && not (retires s (ids_in f.key) || retires nothing (ids_in f.key))) (laws.holds-nothing f)
    ∙ ap (λ y. (holds s f || false) && not (retires s (ids_in f.key) || y)) (has-no_ids (ids_in f.key))
    ∙ with_none (holds s f) (retires s (ids_in f.key)) (is f))
    (λ i. retires-join s nothing i ∙ ap (λ b. retires s i || b) (has-no_ids i) ∙ or_false (retires s i))

pub joined_parts : (s t : State) (f : Fact) → holds (join s t) f ≡ true
    → ((holds s f ≡ true) ⊎ (holds t f ≡ true)) × (retires s (ids_in f.key) ≡ false) × (retires t (ids_in f.key) ≡ false)
joined_parts s t f h =
    let parts = split (holds s f || holds t f) _ (sym (holds-join s t f) ∙ h) in
    let none = neither _ _ (denied _ parts.1) in (or_cases (holds s f) (holds t f) parts.0, none.0, none.1)

pub joined_has : (s t : State) (f : Fact) → (holds s f ≡ true) ⊎ (holds t f ≡ true) → retires s (ids_in f.key) ≡ false
    → retires t (ids_in f.key) ≡ false → holds (join s t) f ≡ true
joined_has s t f one x y =
    holds-join s t f
    ∙ both (holds s f || holds t f) _ (elim one [ inl e ↦ or_left _ _ e | inr e ↦ or_right _ _ e ]) (deny _ (or_none _ _ x y))

pub join_is_state : (s t : State) → IsState (join s t)
join_is_state s t f h =
    let parts = joined_parts s t f h in retires-join s t (ids_in f.key) ∙ or_none _ _ parts.1 parts.2

below_first : (s t : State) (f : Fact) → holds s f ≡ true → (b : Bool) → retires (join s t) (ids_in f.key) ≡ b
    → (holds (join s t) f ≡ true) ⊎ (retires (join s t) (ids_in f.key) ≡ true)
below_first s t f h true e = inr e
below_first s t f h false e =
    let none = neither _ _ (sym (retires-join s t (ids_in f.key)) ∙ e) in inl (joined_has s t f (inl h) none.0 none.1)

pub join_first : (s t : State) → IsBelow s (join s t)
join_first s t = record {
  retired = λ i h. retires-join s t i ∙ or_left _ _ h;
  facts = λ f h. below_first s t f h (retires (join s t) (ids_in f.key)) refl;
}

pub below_same : (s t u : State) → t ≡ u → IsBelow s t → IsBelow s u
below_same s t u e b = record {
  retired = λ i h. ap (λ v. retires v i) (sym e) ∙ b.retired i h;
  facts = λ f h. elim (b.facts f h) [ inl x ↦ inl (ap (λ v. holds v f) (sym e) ∙ x) | inr x ↦ inr (ap (λ v. retires v (ids_in f.key)) (sym e) ∙ x) ];
}

pub join_second : (s t : State) → IsBelow t (join s t)
join_second s t = below_same t (join t s) (join s t) (join_comm t s) (join_first t s)

pub join_least : (s t u : State) → IsBelow s u → IsBelow t u → IsBelow (join s t) u
join_least s t u p q = record {
  retired = λ i h. elim (or_cases _ _ (sym (retires-join s t i) ∙ h)) [ inl e ↦ p.retired i e | inr e ↦ q.retired i e ];
  facts = λ f h. elim (joined_parts s t f h).0 [ inl e ↦ p.facts f e | inr e ↦ q.facts f e ];
}

pub below_both : (s t : State) → IsState s → IsState t → IsBelow s t → IsBelow t s → s ≡ t
below_both s t one other p q =
    same_state s t
    (λ f. both_ways (holds s f) (holds t f)
    (λ h. elim (p.facts f h) [ inl e ↦ e | inr r ↦ clash _ (q.retired (ids_in f.key) r) (one f h) ])
    (λ h. elim (q.facts f h) [ inl e ↦ e | inr r ↦ clash _ (p.retired (ids_in f.key) r) (other f h) ]))
    (λ i. both_ways (retires s i) (retires t i) (p.retired i) (q.retired i))

pub same_members : (s t : State) → ((f : Fact) → holds s f ≡ true → holds t f ≡ true) → ((f : Fact) → holds t f ≡ true → holds s f ≡ true)
    → ((i : JobId) → retires s i ≡ true → retires t i ≡ true) → ((i : JobId) → retires t i ≡ true → retires s i ≡ true) → s ≡ t
same_members s t f g i j =
    same_state s t (λ x. both_ways (holds s x) (holds t x) (f x) (g x)) (λ x. both_ways (retires s x) (retires t x) (i x) (j x))
