-- What is gathered of keys: the facts of these keys, and of no other, that any of several sets has.
use Rattle.std.proofs.Common.{refl, sym, subst, ap, ◌∙◌, arith}
use Rattle.std.proofs.Math.Dec.{eqb-suc-zero}
use Rattle.std.proofs.lemmas.Bool.{true≢false}
use Rattle.std.proofs.lemmas.List.Elements.{Contains-append_right}
use Rattle.std.specs.List.{Contains}
use Rattle.std.specs.Option.{option_map_or}
use Rattle.std.specs.Prelude.{ℕ, ◌≡◌, ◌↔◌, ◌==◌, ◌&&◌, ◌||◌, ◌∷◌, ◌++◌, [], Bool, true, false, not, List, Option, Some, cond, filter, fold, length, slice_get}
use Rattle.live_nodes.specs.Histories.{replay}
use Rattle.live_nodes.specs.declared.event.Event.{Event}
use Rattle.catalog.specs.Entries.{Entry, ids_of}
use Rattle.domains.proofs.PairLists.{Contains-filter, Contains-from_filter, Contains-here}
use Rattle.fact_store.proofs.KeyLaws.{in_facts_of}
use Rattle.fact_store.proofs.SetLaws.{holds-join, holds-nothing, same_holders, same_set}
use Rattle.fact_store.specs.Facts.{FactSet, facts_of, holds, join, nothing}
use Rattle.farm.specs.Reports.{all_held}
use Rattle.farm_answers.specs.Answering.{missing_work}
use Rattle.held_facts.proofs.LentLaws.{holds-lent, in_lent}
use Rattle.held_facts.specs.Answers.{AreHeld}
use Rattle.held_facts.specs.Facts.{is_among, lent}
use Rattle.held_facts.specs.HeldAnswers.{lacks}
use Rattle.identity.specs.declared.key.Key.{Key}
use Rattle.overlap_tiles.specs.Work.{work_keys}

-- ---- of a set that grows

pub lent_nothing : (keys : List Key) → lent nothing keys ≡ nothing
lent_nothing keys =
    same_set (lent nothing keys) nothing
    (λ f. holds-lent nothing keys f ∙ ap (λ b. b && is_among keys f.key) (holds-nothing f) ∙ sym (holds-nothing f))

spread : (a b p : Bool) → ((a || b) && p) ≡ ((a && p) || (b && p))
spread true b true = refl
spread true true false = refl
spread true false false = refl
spread false b p = refl

pub lent_join : (s t : FactSet) (keys : List Key) → lent (join s t) keys ≡ join (lent s keys) (lent t keys)
lent_join s t keys =
    same_set (lent (join s t) keys) (join (lent s keys) (lent t keys))
    (λ f. let among = is_among keys f.key in
    holds-lent (join s t) keys f
    ∙ ap (λ b. b && among) (holds-join s t f)
    ∙ spread (holds s f) (holds t f) among
    ∙ ap (λ b. b || (holds t f && among)) (sym (holds-lent s keys f))
    ∙ ap (λ b. holds (lent s keys) f || b) (sym (holds-lent t keys f))
    ∙ sym (holds-join (lent s keys) (lent t keys) f))

-- one history more
more_held : (s : FactSet) (histories : List (List Event)) (h : List Event)
    → fold (λ s history. join s (replay history).held.facts) s (histories ++ h ∷ [])
    ≡ join (fold (λ s history. join s (replay history).held.facts) s histories) (replay h).held.facts
more_held s [] h = refl
more_held s (x ∷ histories) h = more_held (join s (replay x).held.facts) histories h

pub gathered_more : (all now : FactSet) (histories : List (List Event)) (h : List Event) (keys : List Key)
    → all ≡ lent (all_held histories) keys → now ≡ join all (lent (replay h).held.facts keys)
    → now ≡ lent (all_held (histories ++ h ∷ [])) keys
gathered_more all now histories h keys before more =
    more
    ∙ ap (λ (s : FactSet). join s (lent (replay h).held.facts keys)) before
    ∙ sym (lent_join (all_held histories) (replay h).held.facts keys)
    ∙ ap (λ (s : FactSet). lent s keys) (sym (more_held nothing histories h))

-- ---- of the keys that are held

abbrev pub has : FactSet → Key → Bool
has s key = not (lacks s key)

no_length : {X : Type 0} (xs : List X) → not (length xs == 0) ≡ true → ¬ (xs ≡ [])
no_length {X = X} xs some none = true≢false (sym some ∙ ap (λ (ys : List X). not (length ys == 0)) none)

some_length : {X : Type 0} (xs : List X) (x : X) → Contains xs x → not (length xs == 0) ≡ true
some_length [] x among = absurd (omega (arith, among.1))
some_length (y ∷ xs) x among = ap not (eqb-suc-zero (length xs))

pub held_keys : (s : FactSet) (keys : List Key) → AreHeld s (filter (has s) keys)
held_keys s keys key among = no_length (facts_of s key) (Contains-from_filter (has s) keys key among).1

pub lent_of_held : (s : FactSet) (keys : List Key) → lent s (filter (has s) keys) ≡ lent s keys
lent_of_held s keys =
    same_holders (lent s (filter (has s) keys)) (lent s keys)
    (λ f. (
      λ h. let parts = (in_lent s (filter (has s) keys) f).0 h in
          (in_lent s keys f).1 (parts.0, (Contains-from_filter (has s) keys f.key parts.1).0),
      λ h. let parts = (in_lent s keys f).0 h in
          (in_lent s (filter (has s) keys) f).1 (
            parts.0,
            Contains-filter (has s) keys f.key parts.1
                (some_length (facts_of s f.key) f ((in_facts_of s f.key f).1 (parts.0, refl))),
          ),
    ))

-- ---- what is lacked of it

same_none : {X : Type 0} (xs ys : List X) → ((x : X) → Contains xs x ↔ Contains ys x) → (length xs == 0) ≡ (length ys == 0)
same_none [] [] same = refl
same_none [] (y ∷ ys) same = let none = (same y).1 (Contains-here y ys) in absurd (omega (arith, none.1))
same_none (x ∷ xs) [] same = let none = (same x).0 (Contains-here x xs) in absurd (omega (arith, none.1))
same_none (x ∷ xs) (y ∷ ys) same = eqb-suc-zero (length xs) ∙ sym (eqb-suc-zero (length ys))

lacks_lent : (s : FactSet) (keys : List Key) (key : Key) → Contains keys key → lacks (lent s keys) key ≡ lacks s key
lacks_lent s keys key among =
    same_none (facts_of (lent s keys) key) (facts_of s key)
    (λ f. (
      λ h. let of = (in_facts_of (lent s keys) key f).0 h in (in_facts_of s key f).1 (((in_lent s keys f).0 of.0).0, of.1),
      λ h. let of = (in_facts_of s key f).0 h in
          (in_facts_of (lent s keys) key f).1 ((in_lent s keys f).1 (of.0, subst (Contains keys) (sym of.1) among), of.1),
    ))

filter_by : {X : Type 0} (p q : X → Bool) (x : X) (xs : List X) (a b : Bool) → a ≡ b → filter p xs ≡ filter q xs
    → cond a (x ∷ filter p xs) (filter p xs) ≡ cond b (x ∷ filter q xs) (filter q xs)
filter_by p q x xs true true same rest = ap (λ ys. x ∷ ys) rest
filter_by p q x xs false false same rest = rest
filter_by p q x xs true false same rest = absurd (true≢false same)
filter_by p q x xs false true same rest = absurd (true≢false (sym same))

filter_alike : {X : Type 0} (p q : X → Bool) (xs : List X) → ((x : X) → Contains xs x → p x ≡ q x) → filter p xs ≡ filter q xs
filter_alike p q [] same = refl
filter_alike p q (x ∷ xs) same =
    filter_by p q x xs (p x) (q x) (same x (Contains-here x xs))
    (filter_alike p q xs (λ y among. same y (Contains-append_right (x ∷ []) xs y among)))

-- of a job's work nothing is lacked that is held
pub missing_work_of_lent : (catalog : List Entry) (j : ℕ) (entry : Entry) (inlining : List Bool) (s : FactSet)
    → slice_get catalog j ≡ Some entry
    → missing_work catalog j inlining (lent s (work_keys (ids_of entry).program entry.pipeline inlining)) ≡ missing_work catalog j inlining s
missing_work_of_lent catalog j entry inlining s there =
    let keys = work_keys (ids_of entry).program entry.pipeline inlining in
    is (lent s keys) ∙ filter_alike (lacks (lent s keys)) (lacks s) keys (lacks_lent s keys) ∙ sym (is s)
  where
    is : (t : FactSet) → missing_work catalog j inlining t ≡ filter (lacks t) (work_keys (ids_of entry).program entry.pipeline inlining)
    is t =
        ap (λ (o : Option Entry). option_map_or (λ e. filter (lacks t) (work_keys (ids_of e).program e.pipeline inlining)) o []) there
