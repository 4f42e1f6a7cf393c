-- What is left of a job's work while it is made, tile by tile.
use Rattle.std.proofs.Common.{ℕ, zero, suc, ◌≡◌, ◌⊎◌, inl, inr, refl, sym, ap, ◌∙◌, subst, Bool, true, false, cond, Option, Some}
use Rattle.std.proofs.Common.{List, [], ◌∷◌, map, filter, replicate, drop, ◌+◌}
use Rattle.std.specs.Prelude.{◌≢◌, slice_get}
use Rattle.std.specs.Option.{option_map_or}
use Rattle.std.specs.List.{Contains}
use Rattle.std.proofs.lemmas.List.{drop_more}
use Rattle.std.proofs.lemmas.List.Kept.{AllPairs-filter}
use Rattle.std.proofs.lemmas.Option.{get_or_from_slice_get, same_Some, slice_get_within}
use Rattle.accumulators.specs.Answers.{IsAnswer}
use Rattle.accumulators.specs.declared.answer.Answer.{Answer}
use Rattle.catalog.specs.Entries.{AreJobs, Entry, IsCatalog, ids_of}
use Rattle.domains.proofs.PairLists.{Contains-cases, Contains-filter, Contains-from_filter, Contains-here}
use Rattle.fact_audit.specs.TrueFacts.{IsTrueFact}
use Rattle.fact_store.proofs.SetLaws.{in_with_fact, with_fact_has}
use Rattle.farm_answers.proofs.WorkRoom.{has_room}
use Rattle.farm_answers.specs.Answering.{IsAnswerOf, missing_work}
use Rattle.farm_answers.specs.Answering.{IsPlanned as IsPlannedJob}
use Rattle.farm_answers.specs.inside.Missing.{CanMake, HoldsAnswerOf, IsLeft, LeavesTiles, key_in}
use Rattle.gossip_core.proofs.FinishFaults.{no_make_fault}
use Rattle.gossip_core.proofs.FinishLists.{found_in, held_still, in_none, in_rest, is_held, not_lacked}
use Rattle.gossip_core.proofs.FinishNeeds.{none_lower}
use Rattle.gossip_core.proofs.FinishWanted.{wanted_is_work}
use Rattle.gossip_core.specs.Finishing.{IsPlanned, lacked_work}
use Rattle.gossip_core.specs.Steps.{WorldWork}
use Rattle.tile_boxes.proofs.Lists.{AllPairs-tail}
use Rattle.grouping.specs.Inlining.{Inlining, IsScheduleOf}
use Rattle.tile_boxes.specs.Costs.{AllFitScratch}
use Rattle.identity.specs.declared.key.Key.{Key}
use Rattle.job.specs.Answers.{Tile}
use Rattle.job.specs.WellFormed.{IsJob}
use Rattle.fact_store.specs.Facts.{FactSet, with_fact}
use Rattle.held_facts.proofs.TrueStates.{true_fault}
use Rattle.held_facts.proofs.WantedTiles.{wanted_key}
use Rattle.held_facts.specs.Answers.{IsNotHeld}
use Rattle.held_facts.specs.HeldAnswers.{IsAnswerFault, IsFaultOfTrueFacts, lacks}
use Rattle.held_facts.specs.HeldFacts.{HoldsTrueFacts}
use Rattle.held_facts.specs.declared.answer_fault.AnswerFault.{AnswerFault}
use Rattle.held_facts.specs.declared.answer_fault.AnswerFault.TheVariants as answers
use Rattle.overlap_tiles.proofs.WorkIsExact.{work_has, work_rises}
use Rattle.overlap_tiles.specs.Work.{IsWork, IsWorkedBefore, work_tiles}
use Rattle.tile_fact.specs.declared.fact.Fact.{Fact}

-- ---- lists

in_replicate : {X : Type 0} (x : X) (j : ℕ) → slice_get (replicate (suc j) x) j ≡ Some x
in_replicate x zero = refl
in_replicate x (suc j) = in_replicate x j

map_filter : {X Y : Type 0} (p : Y → Bool) (f : X → Y) (xs : List X) → filter p (map f xs) ≡ map f (filter (λ x. p (f x)) xs)
map_filter p f [] = refl
map_filter p f (x ∷ xs) = by (p (f x)) (map_filter p f xs)
  where
    by : (b : Bool) → filter p (map f xs) ≡ map f (filter (λ y. p (f y)) xs)
        → cond b (f x ∷ filter p (map f xs)) (filter p (map f xs)) ≡ map f
        (cond b (x ∷ filter (λ y. p (f y)) xs) (filter (λ y. p (f y)) xs))
    by true rest = ap (λ ys. f x ∷ ys) rest
    by false rest = rest

pub at_key : (keys : List Key) (i : ℕ) (key : Key) → slice_get keys i ≡ Some key → drop i keys ≡ key ∷ drop (i + 1) keys
at_key keys i key there =
    drop_more keys i key (slice_get_within keys i key there)
    ∙ ap (λ k. k ∷ drop (i + 1) keys) (get_or_from_slice_get keys i key key there)

module _ (catalog : List Entry) (entry : Entry) (inlining : List Bool) where
  -- ---- the first tile

  abbrev work : ℕ → WorldWork
  work j = record { jobs = catalog; schedules = (replicate (suc j) inlining) ∷ [] }

  planned : (j : ℕ) → slice_get catalog j ≡ Some entry → IsPlanned (work j) 0 j entry inlining
  planned j there = record {
    there = there;
    schedules = replicate (suc j) inlining;
    of_node = refl;
    of_job = in_replicate inlining j;
  }

  module _ (s : FactSet) (t : Tile) (ts : List Tile) (left : LeavesTiles catalog entry inlining s (t ∷ ts)) where
    pub first_can : CanMake catalog s inlining (key_in entry t)
    first_can = record {
      truth = left.truth;
      none =
          let is_work = left.work t (Contains-here t ts) in
          no_make_fault (work left.index) 0 left.index entry inlining left.apart (planned left.index left.there) s t left.good left.truth
          is_work (left.roomy t is_work)
          (λ m lower low. elim (left.held_or_left m lower) [
            | inl some ↦ some
            | inr later ↦ absurd (none_lower entry.pipeline t ts m left.order later low)
          ]);
    }

    -- with its fact the others are left
    pub rest_left : (fact : Fact) → fact.key ≡ key_in entry t → IsTrueFact catalog fact
        → LeavesTiles catalog entry inlining (with_fact s fact) ts
    rest_left fact own right = record {
      apart = left.apart;
      good = left.good;
      index = left.index;
      there = left.there;
      roomy = left.roomy;
      truth = λ f held. elim (in_with_fact s fact f held) [
        | inl same ↦ subst (IsTrueFact catalog) (sym same) right
        | inr before ↦ left.truth f before
      ];
      work = λ m later. left.work m (in_rest t ts m later);
      order = AllPairs-tail (IsWorkedBefore entry.pipeline) t ts left.order;
      held_or_left = λ m is_work. elim (left.held_or_left m is_work) [
        | inl some ↦ inl (still m some)
        | inr later ↦ elim (Contains-cases t ts m later) [
          | inl same ↦ inl (subst (λ (x : Tile). ¬ IsNotHeld (with_fact s fact) (key_in entry x)) same here)
          | inr rest ↦ inr rest
        ]
      ];
    }
      where
        still : (m : Tile) → ¬ IsNotHeld s (key_in entry m) → ¬ IsNotHeld (with_fact s fact) (key_in entry m)
        still m some = held_still s (with_fact s fact) (key_in entry m) (λ f held. with_fact_has s fact f (inr held)) some

        here : ¬ IsNotHeld (with_fact s fact) (key_in entry t)
        here = is_held (with_fact s fact) (key_in entry t) fact (with_fact_has s fact fact (inl refl)) own

  -- ---- by keys

  headed : (key : Key) (keys : List Key) (tiles : List Tile) → key ∷ keys ≡ map (key_in entry) tiles
      → (t : Tile) × (ts : List Tile) × (tiles ≡ t ∷ ts) × (key ≡ key_in entry t) × (keys ≡ map (key_in entry) ts)
  headed key keys [] are = absurd (cc)
  headed key keys (t ∷ ts) are = (t, ts, refl, cc, cc)

  pub can_make : (s : FactSet) (key : Key) (keys : List Key) → IsLeft catalog entry inlining s (key ∷ keys)
      → CanMake catalog s inlining key
  can_make s key keys left =
      let head = headed key keys left.0 left.1 in
      subst (CanMake catalog s inlining) (sym head.3)
      (first_can s head.0 head.1 (subst (LeavesTiles catalog entry inlining s) head.2 left.2))

  pub less_left : (s : FactSet) (key : Key) (keys : List Key) (fact : Fact) → IsLeft catalog entry inlining s (key ∷ keys)
      → fact.key ≡ key → IsTrueFact catalog fact → IsLeft catalog entry inlining (with_fact s fact) keys
  less_left s key keys fact left own right =
      let head = headed key keys left.0 left.1 in (
        head.1,
        head.4,
        rest_left s head.0 head.1 (subst (LeavesTiles catalog entry inlining s) head.2 left.2) fact (own ∙ head.3) right,
      )

-- ---- at first, and in the end

pub left_at_first : (catalog : List Entry) (entry : Entry) (s : Inlining) (state : FactSet) (j : ℕ) → IsCatalog catalog
    → IsJob entry.pipeline → slice_get catalog j ≡ Some entry → IsScheduleOf entry.pipeline s → AllFitScratch entry.pipeline s.inlining
    → HoldsTrueFacts catalog state
    → IsLeft catalog entry s.inlining state (lacked_work state entry s.inlining)
left_at_first catalog entry s state j apart good there schedule fit truth = (
  tiles,
  map_filter (lacks state) (key_in entry) (work_tiles entry.pipeline s.inlining),
  record {
    apart = apart;
    good = good;
    index = j;
    there = there;
    roomy = has_room entry.pipeline s schedule fit;
    truth = truth;
    work = λ t has. (work_has entry.pipeline s.inlining t).0
        (Contains-from_filter missing (work_tiles entry.pipeline s.inlining) t has).0;
    order = AllPairs-filter (IsWorkedBefore entry.pipeline) missing (work_tiles entry.pipeline s.inlining)
        (work_rises entry.pipeline s.inlining);
    held_or_left = λ t is_work. by t is_work (missing t) refl;
  },
)
  where
    missing : Tile → Bool
    missing t = lacks state (key_in entry t)

    tiles : List Tile
    tiles = filter missing (work_tiles entry.pipeline s.inlining)

    by : (t : Tile) → IsWork entry.pipeline s.inlining t → (b : Bool) → missing t ≡ b
        → (¬ IsNotHeld state (key_in entry t)) ⊎ Contains tiles t
    by t is_work true is =
        inr (Contains-filter missing (work_tiles entry.pipeline s.inlining) t ((work_has entry.pipeline s.inlining t).1 is_work) is)
    by t is_work false is = inl (not_lacked state (key_in entry t) is)

pub holds_in_the_end : (catalog : List Entry) (entry : Entry) (s : Inlining) (state : FactSet) → IsScheduleOf entry.pipeline s
    → IsLeft catalog entry s.inlining state [] → HoldsAnswerOf catalog state entry
holds_in_the_end catalog entry s state schedule left = record {
  apart = left.2.apart;
  good = left.2.good;
  here = found_in catalog left.2.index entry left.2.there;
  truth = left.2.truth;
  held = λ key asked.
      let of = wanted_key (ids_of entry).program entry.pipeline key asked in
      subst (λ (k : Key). ¬ IsNotHeld state k) of.is
      (elim (left.2.held_or_left of.tile
      (wanted_is_work entry.pipeline s.inlining of.tile left.2.good schedule.inlining.inner of.wanted)) [
        | inl some ↦ some
        | inr later ↦ absurd (none_of left.0 left.1 of.tile later)
      ]);
}
  where
    none_of : (tiles : List Tile) → [] ≡ map (key_in entry) tiles → (t : Tile) → Contains tiles t → ⊥
    none_of [] are t has = in_none t has
    none_of (x ∷ xs) are t has = absurd (cc)

-- ---- of a job that is planned

is_entry : (catalog : List Entry) (j : ℕ) (s : Inlining) (entry : Entry) (planned : IsPlannedJob catalog j s)
    → slice_get catalog j ≡ Some entry → planned.entry ≡ entry
is_entry catalog j s entry planned there = same_Some planned.entry entry (sym planned.there ∙ there)

pub planned_schedule : (catalog : List Entry) (j : ℕ) (s : Inlining) (entry : Entry) → IsPlannedJob catalog j s
    → slice_get catalog j ≡ Some entry → IsScheduleOf entry.pipeline s
planned_schedule catalog j s entry planned there =
    subst (λ (e : Entry). IsScheduleOf e.pipeline s) (is_entry catalog j s entry planned there) planned.schedule

pub planned_left : (catalog : List Entry) (j : ℕ) (s : Inlining) (entry : Entry) (state : FactSet) → IsPlannedJob catalog j s
    → slice_get catalog j ≡ Some entry → IsCatalog catalog → AreJobs catalog → HoldsTrueFacts catalog state
    → IsLeft catalog entry s.inlining state (lacked_work state entry s.inlining)
planned_left catalog j s entry state planned there apart jobs truth =
    left_at_first catalog entry s state j apart (jobs j entry there) there (planned_schedule catalog j s entry planned there)
    (subst (λ (e : Entry). AllFitScratch e.pipeline s.inlining) (is_entry catalog j s entry planned there) planned.fits) truth

pub answers_it : (catalog : List Entry) (j : ℕ) (entry : Entry) (answer : Answer) → slice_get catalog j ≡ Some entry
    → IsAnswer entry.pipeline answer → IsAnswerOf catalog j answer
answers_it catalog j entry answer there is other at =
    subst (λ (e : Entry). IsAnswer e.pipeline answer) (same_Some entry other (sym there ∙ at)) is

pub lacked_is : (catalog : List Entry) (j : ℕ) (entry : Entry) (inlining : List Bool) (s : FactSet) → slice_get catalog j ≡ Some entry
    → missing_work catalog j inlining s ≡ lacked_work s entry inlining
lacked_is catalog j entry inlining s there =
    ap (λ (o : Option Entry). option_map_or (λ e. lacked_work s e inlining) o []) there

-- ---- where all is held, only memory keeps the answer back

pub only_memory : (catalog : List Entry) (s : FactSet) (entry : Entry) → HoldsAnswerOf catalog s entry → (fault : AnswerFault)
    → fault ≢ answers.Memory → IsAnswerFault s (ids_of entry).program entry.pipeline fault → ⊥
only_memory catalog s entry all fault other told =
    by fault other (true_fault catalog entry s all.apart all.here all.truth fault told)
  where
    by : (f : AnswerFault) → f ≢ answers.Memory → IsFaultOfTrueFacts s (ids_of entry).program entry.pipeline f → ⊥
    by (answers.Missing key) apart is = all.held key is.asked is.not_held
    by (answers.Disputed key) apart is = is
    by (answers.Misshapen key) apart is = is
    by answers.Memory apart is = apart refl
    by answers.Retired apart is = is

pub no_retired : (catalog : List Entry) (s : FactSet) (entry : Entry) → HoldsAnswerOf catalog s entry → (fault : AnswerFault)
    → fault ≡ answers.Retired → IsAnswerFault s (ids_of entry).program entry.pipeline fault → ⊥
no_retired catalog s entry all fault is =
    only_memory catalog s entry all fault (λ e. let same : answers.Retired ≡ answers.Memory = sym is ∙ e in cc)

module _ (catalog : List Entry) (s : FactSet) (entry : Entry) (all : HoldsAnswerOf catalog s entry) (fault : AnswerFault) (key : Key) where
  pub no_missing : fault ≡ answers.Missing key → IsAnswerFault s (ids_of entry).program entry.pipeline fault → ⊥
  no_missing is = only_memory catalog s entry all fault (λ e. let same : answers.Missing key ≡ answers.Memory = sym is ∙ e in cc)

  pub no_disputed : fault ≡ answers.Disputed key → IsAnswerFault s (ids_of entry).program entry.pipeline fault → ⊥
  no_disputed is = only_memory catalog s entry all fault (λ e. let same : answers.Disputed key ≡ answers.Memory = sym is ∙ e in cc)

  pub no_misshapen : fault ≡ answers.Misshapen key → IsAnswerFault s (ids_of entry).program entry.pipeline fault → ⊥
  no_misshapen is = only_memory catalog s entry all fault (λ e. let same : answers.Misshapen key ≡ answers.Memory = sym is ∙ e in cc)
