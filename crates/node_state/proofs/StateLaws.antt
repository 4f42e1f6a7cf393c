-- What facts and retirements add to a state.
use Rattle.std.specs.Prelude.{◌≡◌, ◌||◌, ◌&&◌, ◌+◌, ◌++◌, ℕ, Bool, true, false, not, List, [], ◌∷◌, Result, Ok, Err, OnErr, OnOk, refl, filter, length}
use Rattle.std.proofs.Common.{ap, sym, ◌∙◌, subst}
use Rattle.std.proofs.lemmas.Bool.{true≢false}
use Rattle.std.proofs.lemmas.List.Folds.{list_any-append}
use Rattle.std.specs.Cmp.{Equal-is}
use Rattle.std.specs.FinMap as map
use Rattle.std.specs.Ordering.{eq_by_cmp}
use Rattle.identity.specs.Keys.{ids_cmp, ids_in}
use Rattle.identity.specs.declared.job_ids.JobId.{JobId}
use Rattle.identity.specs.declared.key.Key.{Key}
use Rattle.tile_fact.specs.Order.{fact_cmp}
use Rattle.tile_fact.specs.declared.fact.Fact.{Fact}
use Rattle.fact_store.proofs.MergeCounts.{new_and_retired}
use Rattle.fact_store.proofs.RemoveLaws as removed
use Rattle.fact_store.proofs.SetLaws as laws
use Rattle.fact_store.specs.Facts as sets
use Rattle.fact_store.specs.Facts.{FactSet, facts_in, lacked, names_one}
use Rattle.held_facts.proofs.LentLaws.{in_lent}
use Rattle.held_facts.specs.Facts as held_sets
use Rattle.states.proofs.IdLaws.{has-ids_in_set, has-no_ids, has-union, has-with_ids, same_ids}
use Rattle.states.proofs.JoinLaws.{holds-join, join_is_state, retires-join, same_state}
use Rattle.states.specs.IdSets.{IdSet, has, ids_in_set, no_ids, union, with_ids}
use Rattle.states.specs.States.{IsState, State, holds, join, nothing, of_fact, of_retirement, retires, without}

abbrev pub state_of : FactSet → IdSet → State
state_of facts ids = record { facts = facts; retired = ids }

-- the same parts are the same state
pub same_parts : (facts other : FactSet) (ids more : IdSet) → facts ≡ other → ids ≡ more → state_of facts ids ≡ state_of other more
same_parts facts other ids more p q = λ i. state_of (p i) (q i)

pub still_state : (facts other : FactSet) (ids more : IdSet) → facts ≡ other → ids ≡ more → IsState (state_of facts ids)
    → IsState (state_of other more)
still_state facts other ids more p q = subst IsState (same_parts facts other ids more p q)

pub nothing_is_state : IsState nothing
nothing_is_state f h = absurd (true≢false (sym h ∙ laws.holds-nothing f))

-- ---- one fact
holds-of_fact : (f g : Fact) → holds (of_fact f) g ≡ (eq_by_cmp fact_cmp g f || false)
holds-of_fact f g = laws.holds-with_fact sets.nothing f g ∙ ap (λ b. eq_by_cmp fact_cmp g f || b) (laws.holds-nothing g)

joined_fact : (s : State) (f g : Fact)
    → holds (join s (of_fact f)) g ≡ ((holds s g || (eq_by_cmp fact_cmp g f || false)) && not (retires s (ids_in g.key) || false))
joined_fact s f g =
    holds-join s (of_fact f) g
    ∙ (λ i. (holds s g || holds-of_fact f g i) && not (retires s (ids_in g.key) || has-no_ids (ids_in g.key) i))

or_false : (a : Bool) → (a || false) ≡ a
or_false true = refl
or_false false = refl

joined_retires : (s : State) (f : Fact) (i : JobId) → retires (join s (of_fact f)) i ≡ retires s i
joined_retires s f i = retires-join s (of_fact f) i ∙ ap (λ b. retires s i || b) (has-no_ids i) ∙ or_false (retires s i)

left_out : (e h r : Bool) → (e ≡ true → r ≡ true) → (h ≡ true → r ≡ false) → ((h || (e || false)) && not (r || false)) ≡ h
left_out true true true p q = absurd (true≢false (q refl))
left_out true true false p q = refl
left_out true false true p q = refl
left_out true false false p q = absurd (true≢false (sym (p refl)))
left_out false true true p q = absurd (true≢false (q refl))
left_out false true false p q = refl
left_out false false true p q = refl
left_out false false false p q = refl

-- a fact of a retired job adds nothing
pub retired_fact : (s : State) (f : Fact) → IsState s → retires s (ids_in f.key) ≡ true → s ≡ join s (of_fact f)
retired_fact s f is r =
    sym (same_state (join s (of_fact f)) s
    (λ g. joined_fact s f g
    ∙ left_out (eq_by_cmp fact_cmp g f) (holds s g) (retires s (ids_in g.key))
    (λ e. ap (λ (h : Fact). retires s (ids_in h.key)) (laws.same_fact g f e) ∙ r) (is g))
    (joined_retires s f))

let_in : (e h r : Bool) → (e ≡ true → r ≡ false) → (h ≡ true → r ≡ false) → (e || h) ≡ ((h || (e || false)) && not (r || false))
let_in true h true p q = absurd (true≢false (p refl))
let_in true true false p q = refl
let_in true false false p q = refl
let_in false true true p q = absurd (true≢false (q refl))
let_in false true false p q = refl
let_in false false true p q = refl
let_in false false false p q = refl

-- all others add themselves
pub live_fact : (s : State) (f : Fact) → IsState s → retires s (ids_in f.key) ≡ false
    → state_of (sets.with_fact s.facts f) s.retired ≡ join s (of_fact f)
live_fact s f is r =
    same_state (state_of (sets.with_fact s.facts f) s.retired) (join s (of_fact f))
    (λ g. laws.holds-with_fact s.facts f g
    ∙ let_in (eq_by_cmp fact_cmp g f) (holds s g) (retires s (ids_in g.key))
    (λ e. ap (λ (h : Fact). retires s (ids_in h.key)) (laws.same_fact g f e) ∙ r) (is g)
    ∙ sym (joined_fact s f g))
    (λ i. sym (joined_retires s f i))

-- ---- one retirement
one_or : (e h r : Bool) → (h ≡ true → r ≡ false) → (h && not (e || false)) ≡ ((h || false) && not (r || (e || false)))
one_or e true true q = absurd (true≢false (q refl))
one_or e true false q = refl
one_or e false r q = refl

or_comm : (a b : Bool) → (a || b) ≡ (b || a)
or_comm true true = refl
or_comm true false = refl
or_comm false true = refl
or_comm false false = refl

has-one : (i j : JobId) → has (with_ids no_ids i) j ≡ (eq_by_cmp ids_cmp j i || false)
has-one i j = has-with_ids no_ids i j ∙ ap (λ b. eq_by_cmp ids_cmp j i || b) (has-no_ids j)

pub one_retired : (s : State) (i : JobId) → IsState s
    → state_of (sets.without s.facts (i ∷ [])) (with_ids s.retired i) ≡ join s (of_retirement i)
one_retired s i is =
    same_state (state_of (sets.without s.facts (i ∷ [])) (with_ids s.retired i)) (join s (of_retirement i))
    (λ f. removed.holds-without s.facts (i ∷ []) f
    ∙ one_or (eq_by_cmp ids_cmp (ids_in f.key) i) (holds s f) (retires s (ids_in f.key)) (is f)
    ∙ sym (holds-join s (of_retirement i) f
    ∙ (λ k. (holds s f || laws.holds-nothing f k) && not (retires s (ids_in f.key) || has-one i (ids_in f.key) k))))
    (λ j. has-with_ids s.retired i j ∙ or_comm (eq_by_cmp ids_cmp j i) (has s.retired j)
    ∙ sym (retires-join s (of_retirement i) j ∙ ap (λ b. retires s j || b) (has-one i j ∙ or_false (eq_by_cmp ids_cmp j i))))

gone : (e h r : Bool) → (e ≡ true → r ≡ true) → (h ≡ true → r ≡ false) → ((h || false) && not (r || (e || false))) ≡ h
gone true true true p q = absurd (true≢false (q refl))
gone true true false p q = absurd (true≢false (sym (p refl)))
gone true false r p q = refl
gone false true true p q = absurd (true≢false (q refl))
gone false true false p q = refl
gone false false r p q = refl

there : (a b : Bool) → (b ≡ true → a ≡ true) → (a || b) ≡ a
there true b h = refl
there false true h = sym (h refl)
there false false h = refl

equal : (a b : JobId) → eq_by_cmp ids_cmp a b ≡ true → a ≡ b
equal a b e = same_ids a b ((Equal-is (ids_cmp a b)).0 e)

pub retired_again : (s : State) (i : JobId) → IsState s → retires s i ≡ true → s ≡ join s (of_retirement i)
retired_again s i is r =
    sym (same_state (join s (of_retirement i)) s
    (λ f. holds-join s (of_retirement i) f
    ∙ (λ k. (holds s f || laws.holds-nothing f k) && not (retires s (ids_in f.key) || has-one i (ids_in f.key) k))
    ∙ gone (eq_by_cmp ids_cmp (ids_in f.key) i) (holds s f) (retires s (ids_in f.key))
    (λ e. ap (retires s) (equal (ids_in f.key) i e) ∙ r) (is f))
    (λ j. retires-join s (of_retirement i) j ∙ ap (λ b. retires s j || b) (has-one i j ∙ or_false (eq_by_cmp ids_cmp j i))
    ∙ there (retires s j) (eq_by_cmp ids_cmp j i) (λ e. ap (retires s) (equal j i e) ∙ r)))

-- ---- another state
-- the facts without those of the identities in a set, as a list or as the set
pub without_listed : (facts : FactSet) (ids : IdSet) → sets.without facts (ids_in_set ids) ≡ without facts ids
unfolding sets.without without
without_listed facts ids = λ k. map.retain_keys facts (λ f. not (sym (has-ids_in_set ids (ids_in f.key)) k))

pub both_joined : (s t : State)
    → state_of (sets.without (sets.join s.facts t.facts) (ids_in_set (union s.retired t.retired))) (union s.retired t.retired) ≡ join s t
both_joined s t =
    λ k. state_of (without_listed (sets.join s.facts t.facts) (union s.retired t.retired) k) (union s.retired t.retired)

names_listed : (ids : IdSet) (key : Key) → names_one (ids_in_set ids) key ≡ has ids (ids_in key)
names_listed ids key = sym (has-ids_in_set ids (ids_in key))

apart_lists : (s : State) → IsState s → (f : Fact) → sets.holds s.facts f ≡ true → names_one (ids_in_set s.retired) f.key ≡ false
apart_lists s is f h = names_listed s.retired f.key ∙ is f h

one_list : (facts : FactSet) (a b : IdSet)
    → sets.without facts (ids_in_set (union a b)) ≡ sets.without facts (ids_in_set a ++ ids_in_set b)
unfolding sets.without
one_list facts a b = λ k. map.retain_keys facts (λ f. not (same f k))
  where
    same : (f : Fact) → names_one (ids_in_set (union a b)) f.key ≡ names_one (ids_in_set a ++ ids_in_set b) f.key
    same f =
        names_listed (union a b) f.key ∙ has-union a b (ids_in f.key)
        ∙ (λ k. has-ids_in_set a (ids_in f.key) k || has-ids_in_set b (ids_in f.key) k)
        ∙ sym (list_any-append (eq_by_cmp ids_cmp (ids_in f.key)) (ids_in_set a) (ids_in_set b))

-- so many facts are new after a merge, and so many of the other's are of jobs that are retired here
pub new_facts : (s t : State) → IsState s → IsState t
    → length (lacked s.facts (join s t).facts) + length (filter (λ f. names_one (ids_in_set s.retired) f.key) (facts_in t.facts))
    ≡ length (lacked s.facts (sets.join s.facts t.facts))
new_facts s t is other =
    ap (λ facts. length (lacked s.facts facts) + length (filter (λ f. names_one (ids_in_set s.retired) f.key) (facts_in t.facts)))
    (sym (without_listed (sets.join s.facts t.facts) (union s.retired t.retired))
    ∙ one_list (sets.join s.facts t.facts) s.retired t.retired)
    ∙ new_and_retired s.facts t.facts (ids_in_set s.retired) (ids_in_set t.retired) (apart_lists s is) (apart_lists t other)

-- ---- of a state that is seen as its parts
module _ (held : FactSet) (ids : IdSet) (s : State) (is : state_of held ids ≡ s) (live : IsState (state_of held ids)) where
  whole : IsState s
  whole = subst IsState is live

  -- a fact that is taken
  module _ (f : Fact) (asked : retires s (ids_in f.key) ≡ false) where
    added : (now : FactSet) → now ≡ sets.with_fact held f → state_of now ids ≡ join s (of_fact f)
    added now e =
        same_parts now (sets.with_fact held f) ids ids e refl
        ∙ live_fact (state_of held ids) f live (ap (λ t. retires t (ids_in f.key)) is ∙ asked) ∙ ap (λ t. join t (of_fact f)) is

    pub taken : {A B : Type 0} (r : Result A B) (now : FactSet) → OnOk r (now ≡ sets.with_fact held f) → OnOk r (state_of now ids ≡ join s (of_fact f))
    taken (Ok a) now e = added now e
    taken (Err b) now e = tt

    pub taken_state : {A B : Type 0} (r : Result A B) (now : FactSet) → OnOk r (now ≡ sets.with_fact held f) → OnErr r (now ≡ held)
        → IsState (state_of now ids)
    taken_state (Ok a) now e same = subst IsState (sym (added now e)) (join_is_state s (of_fact f))
    taken_state (Err b) now e same = still_state held now ids ids (sym same) refl live

  -- a job that is retired
  module _ (i : JobId) (now : FactSet) (more : IdSet) (less : now ≡ sets.without held (i ∷ [])) (one : more ≡ with_ids ids i) where
    pub retired : state_of now more ≡ join s (of_retirement i)
    retired =
        same_parts now (sets.without held (i ∷ [])) more (with_ids ids i) less one
        ∙ one_retired (state_of held ids) i live ∙ ap (λ t. join t (of_retirement i)) is

    pub retired_state : IsState (state_of now more)
    retired_state = subst IsState (sym retired) (join_is_state s (of_retirement i))

  -- another state that is merged
  module _ (other : FactSet) (theirs : IdSet) (t : State) (that : state_of other theirs ≡ t) (those : IsState (state_of other theirs)) where
    abbrev met : FactSet
    met = sets.join held other

    module _ (now : FactSet) (both : IdSet) (less : now ≡ sets.without met (ids_in_set both)) (one : both ≡ union ids theirs) where
      pub merged : state_of now both ≡ join s t
      merged =
          (λ k. state_of (less k) both)
          ∙ (λ k. state_of (sets.without met (ids_in_set (one k))) (one k))
          ∙ both_joined (state_of held ids) (state_of other theirs) ∙ (λ k. join (is k) (that k))

      pub merged_state : IsState (state_of now both)
      merged_state = subst IsState (sym merged) (join_is_state s t)

      -- of the facts that came, so many stay
      pub stay : (came : FactSet) (ours : List JobId) (new again : ℕ) → came ≡ met → ours ≡ ids_in_set ids → new ≡ length (lacked held came)
          → again ≡ length (filter (λ f. names_one ours f.key) (facts_in other)) → length (lacked held now) + again ≡ new
      stay came ours new again all own count more =
          (λ k. length (lacked held (kept k)) + (more ∙ ap (λ js. length (filter (λ f. names_one js f.key) (facts_in other))) own) k)
          ∙ new_facts (state_of held ids) (state_of other theirs) live those
          ∙ sym (count ∙ ap (λ v. length (lacked held v)) all)
        where
          kept : now ≡ (join (state_of held ids) (state_of other theirs)).facts
          kept = ap (λ v. v.facts) (merged ∙ sym (λ k. join (is k) (that k)))

-- ---- what is lent
pub lent_is_state : (held lent : FactSet) (keys : List Key) (ids more : IdSet) → lent ≡ held_sets.lent held keys → more ≡ ids
    → IsState (state_of held ids) → IsState (state_of lent more)
lent_is_state held lent keys ids more e same is f h =
    ap (λ v. has v (ids_in f.key)) same ∙ is f ((in_lent held keys f).0 (ap (λ s. sets.holds s f) (sym e) ∙ h)).0
