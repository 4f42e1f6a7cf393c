-- Groups follow chains of reads.
use Rattle.std.proofs.Common.{ℕ, zero, suc, ◌+◌, ◌<◌, ◌≤◌, ◌⊎◌, inl, inr, ◌↔◌, arith, ◌≡◌, ◌≢◌, nat_eq, Bool, true, false, Option}
use Rattle.std.proofs.Common.{Some, None, List, [], ◌∷◌, length, refl, sym, ap, subst, ◌∙◌}
use Rattle.std.specs.Prelude.{All, Contains, ◌&&◌, slice_get, slice_set, take, if◌then◌else◌}
use Rattle.std.specs.List.{fold, list_all, list_any}
use Rattle.std.specs.Option.{option_map_or}
use Rattle.std.proofs.Math.Nat.{le_refl, lt_of_le_of_lt}
use Rattle.std.proofs.lemmas.Bool.{cases_eq, false≢true}
use Rattle.std.proofs.lemmas.List.{length-set, get_or-set_same, get_or-set_other}
use Rattle.std.proofs.lemmas.List.Elements.{All-head, All-tail, All-weaker, All-take, All-contains}
use Rattle.std.proofs.lemmas.List.FromFn.{length-range_with_len}
use Rattle.std.proofs.lemmas.Option.{slice_get_within}
use Rattle.domains.proofs.PairLists.{Contains-filter}
use Rattle.job.specs.Pipeline.{Pipeline, Stage, rank_of}
use Rattle.job.specs.Reads.{stage_read, reads_of}
use Rattle.job.specs.WellFormed.{IsJob}
use Rattle.tile_boxes.specs.Order.{greatest_rank, order_stages_by_rank, backward}
use Rattle.tile_boxes.specs.Schedules.{is_inlined}
use Rattle.grouping.specs.Greedy.{is_reader_of_stage, readers, Grouping, initial_grouping}
use Rattle.grouping.specs.Greedy.{group, find_common_group, with_inlined, visited, group_stages_greedily, greedy_inlining}
use Rattle.grouping.specs.inside.Standings.{NoneInlinedBelow}
use Rattle.grouping.specs.Chains.{ChainLeads, itself, on, grouping_after}
use Rattle.tile_boxes.proofs.BoxesFollowTheRule.{rank_below, enough_left, all_enough}
use Rattle.tile_boxes.proofs.BoxesHoldWhatIsRead.{ordered, Contains-reverse}
use Rattle.tile_boxes.proofs.AskedIsSchedule.{stored_is}
use Rattle.grouping.proofs.ReadersMakeBoxes.{reader_is_behind, readers_read, group_shared}
use Rattle.grouping.proofs.VisitsMakeSchedules.{visited_by, Falls, IsBehind, backward_falls, backward_there, group_at_first}
use Rattle.grouping.proofs.VisitsMakeSchedules.{stored_at_first}
use Rattle.grouping.proofs.InlinedStands.{ranks_differ}
use Rattle.grouping.proofs.GreedyIsTheRule.{IsFree, free_at_first, all_free_still}

-- ---- what holds of each grouping

-- a stored stage is its own group, and an inlined function has the one group of its readers
pub record GroupsFollow (job : Pipeline) (c : Grouping) : Type 0 where
  pub inlining : length c.inlining ≡ length job.stages
  pub groups : length c.groups ≡ length job.stages
  pub own : (x : ℕ) → is_inlined c.inlining x ≡ false → group c x ≡ x
  pub shared : (x : ℕ) → is_inlined c.inlining x ≡ true → find_common_group c (readers job x) ≡ Some (group c x)

-- ---- stages of which each has the same group by two groupings

tests_same : (c d : Grouping) (h : ℕ) (rs : List ℕ) → All (λ r. group d r ≡ group c r) rs
    → list_all (λ q. nat_eq (group d q) h) rs ≡ list_all (λ q. nat_eq (group c q) h) rs
tests_same c d h [] same = refl
tests_same c d h (r ∷ rs) same =
    let first = All-head (λ r. group d r ≡ group c r) r rs same in
    let rest = tests_same c d h rs (All-tail (λ r. group d r ≡ group c r) r rs same) in
    λ i. nat_eq (first i) h && rest i

common_group_same : (c d : Grouping) (rs : List ℕ) → All (λ r. group d r ≡ group c r) rs → find_common_group d rs ≡ find_common_group c rs
common_group_same c d [] same = refl
common_group_same c d (r ∷ rs) same =
    let first = All-head (λ r. group d r ≡ group c r) r rs same in
    let rest = All-tail (λ r. group d r ≡ group c r) r rs same in
    ap (λ h. if list_all (λ q. nat_eq (group d q) h) rs then Some h else None) first
    ∙ ap (λ b. if b then Some (group c r) else None) (tests_same c d (group c r) rs rest)

-- ---- one function more

-- a function g with the one group h of its readers, and the functions inlined so far after it
record IsNext (job : Pipeline) (c : Grouping) (g h : ℕ) : Type 0 where
  valid : IsJob job
  follow : GroupsFollow job c
  there : g < length job.stages
  behind : NoneInlinedBelow job c.inlining g
  one_group : find_common_group c (readers job g) ≡ Some h

module _ {job : Pipeline} {c : Grouping} {g h : ℕ} (next : IsNext job c g h) where
  flag_is_set : is_inlined (slice_set c.inlining g true) g ≡ true
  flag_is_set = get_or-set_same c.inlining g true false (let same = next.follow.inlining in let there = next.there in omega arith)

  new_group : group (with_inlined c g h) g ≡ h
  new_group = get_or-set_same c.groups g h g (let same = next.follow.groups in let there = next.there in omega arith)

  flag_stays : (x : ℕ) → x ≢ g → is_inlined (slice_set c.inlining g true) x ≡ is_inlined c.inlining x
  flag_stays x other = get_or-set_other c.inlining g x true false other

  group_stays : (x : ℕ) → x ≢ g → group (with_inlined c g h) x ≡ group c x
  group_stays x other = get_or-set_other c.groups g x h x other

  -- g is no reader of a stage of no lower rank, so that its readers have the groups that they had
  readers_stay : (x : ℕ) → rank_of job.stages g ≤ rank_of job.stages x
      → find_common_group (with_inlined c g h) (readers job x) ≡ find_common_group c (readers job x)
  readers_stay x low = common_group_same c (with_inlined c g h) (readers job x) (
      All-weaker (λ r. is_reader_of_stage job x r ≡ true) (λ r. group (with_inlined c g h) r ≡ group c r)
      (λ r reads. group_stays r (ranks_differ job.stages g r (lt_of_le_of_lt low (reader_is_behind job x r next.valid reads))))
      (readers job x) (readers_read job x))

  own_still : (x : ℕ) → is_inlined (slice_set c.inlining g true) x ≡ false → group (with_inlined c g h) x ≡ x
  own_still x off = by (cases_eq x g)
    where
      by : (x ≡ g) ⊎ (x ≡ g → ⊥) → group (with_inlined c g h) x ≡ x
      by (inl e) = absurd (false≢true (sym off ∙ ap (is_inlined (slice_set c.inlining g true)) e ∙ flag_is_set))
      by (inr other) = group_stays x other ∙ next.follow.own x (sym (flag_stays x other) ∙ off)

  shared_now : find_common_group (with_inlined c g h) (readers job g) ≡ Some (group (with_inlined c g h) g)
  shared_now = readers_stay g (le_refl (rank_of job.stages g)) ∙ next.one_group ∙ ap Some (sym new_group)

  shared_still : (x : ℕ) → is_inlined (slice_set c.inlining g true) x ≡ true
      → find_common_group (with_inlined c g h) (readers job x) ≡ Some (group (with_inlined c g h) x)
  shared_still x inlined = by (cases_eq x g)
    where
      by : (x ≡ g) ⊎ (x ≡ g → ⊥) → find_common_group (with_inlined c g h) (readers job x) ≡ Some (group (with_inlined c g h) x)
      by (inl e) = subst (λ y. find_common_group (with_inlined c g h) (readers job y) ≡ Some (group (with_inlined c g h) y)) (sym e) shared_now
      by (inr other) =
          let was = sym (flag_stays x other) ∙ inlined in
          readers_stay x (next.behind x was) ∙ next.follow.shared x was ∙ ap Some (sym (group_stays x other))

  groups_follow_next : GroupsFollow job (with_inlined c g h)
  groups_follow_next = record {
    inlining = length-set c.inlining g true ∙ next.follow.inlining;
    groups = length-set c.groups g h ∙ next.follow.groups;
    own = own_still;
    shared = shared_still;
  }

-- ---- a visit

follow_visited : (job : Pipeline) (percent : ℕ) (c : Grouping) (g : ℕ) → IsJob job → GroupsFollow job c → g < length job.stages
    → NoneInlinedBelow job c.inlining g → GroupsFollow job (visited job percent c g)
follow_visited job percent c g valid follow there behind =
    visited_by (GroupsFollow job) job percent c g follow
    (λ function inner h shared. groups_follow_next
    (record { valid = valid; follow = follow; there = there; behind = behind; one_group = shared }))

follow_all : (job : Pipeline) (percent : ℕ) (c : Grouping) (gs : List ℕ) → IsJob job → GroupsFollow job c → Falls job.stages gs
    → All (λ g. g < length job.stages) gs → All (IsFree job c.inlining) gs
    → GroupsFollow job (fold (visited job percent) c gs)
follow_all job percent c [] valid follow falls there free = follow
follow_all job percent c (g ∷ gs) valid follow falls there free =
    follow_all job percent (visited job percent c g) gs valid
    (follow_visited job percent c g valid follow (All-head (λ g. g < length job.stages) g gs there)
    (All-head (IsFree job c.inlining) g gs free).1)
    falls.1 (All-tail (λ g. g < length job.stages) g gs there)
    (all_free_still job percent c g gs falls.0 (All-tail (IsFree job c.inlining) g gs free))

follow_at_first : (job : Pipeline) → GroupsFollow job (initial_grouping job)
follow_at_first job = record {
  inlining = (stored_is job).each;
  groups = length-range_with_len 0 (length job.stages);
  own = λ x off. group_at_first job x;
  shared = λ x inlined. absurd (false≢true (sym (stored_at_first job x) ∙ inlined));
}

Falls-take : (stages : List Stage) (k : ℕ) (xs : List ℕ) → Falls stages xs → Falls stages (take k xs)
Falls-take stages zero xs falls = tt
Falls-take stages (suc k) [] falls = tt
Falls-take stages (suc k) (x ∷ xs) falls = (All-take (IsBehind stages x) k xs falls.0, Falls-take stages k xs falls.1)

pub follow_after : (job : Pipeline) (percent k : ℕ) → IsJob job → GroupsFollow job (grouping_after job percent k)
follow_after job percent k valid =
    let first = take k (backward job.stages) in
    follow_all job percent (initial_grouping job) first valid (follow_at_first job)
    (Falls-take job.stages k (backward job.stages) (backward_falls job.stages))
    (All-take (λ g. g < length job.stages) k (backward job.stages) (backward_there job.stages)) (free_at_first job first)

pub follow_at_last : (job : Pipeline) (percent : ℕ) → IsJob job → GroupsFollow job (group_stages_greedily job percent)
follow_at_last job percent valid =
    follow_all job percent (initial_grouping job) (backward job.stages) valid (follow_at_first job) (backward_falls job.stages)
    (backward_there job.stages) (free_at_first job (backward job.stages))

-- ---- readers

reader_there : (job : Pipeline) (x r : ℕ) → is_reader_of_stage job x r ≡ true → r < length job.stages
reader_there job x r reads = by (slice_get job.stages r) refl reads
  where
    by : (o : Option Stage) → slice_get job.stages r ≡ o
        → list_any (λ y. nat_eq (stage_read y) x) (option_map_or (λ (s : Stage). reads_of s.body) o []) ≡ true → r < length job.stages
    by None e k = absurd (cc)
    by (Some s) e k = slice_get_within job.stages r s e

is_reader : (job : Pipeline) (x r : ℕ) → is_reader_of_stage job x r ≡ true → Contains (readers job x) r
is_reader job x r reads =
    Contains-filter (is_reader_of_stage job x) (backward job.stages) r
    (Contains-reverse (order_stages_by_rank job.stages) r (ordered job.stages r (reader_there job x r reads))) reads

-- ---- from groups back

module _ (job : Pipeline) (c : Grouping) (valid : IsJob job) (follow : GroupsFollow job c) where
  -- what holds of each stored stage, and of each inlined function where it holds of a reader with the same group, holds of all
  module _ (Q : ℕ → Type 0) (first : (x : ℕ) → is_inlined c.inlining x ≡ false → Q x)
      (further : (x r : ℕ) → is_inlined c.inlining x ≡ true → is_reader_of_stage job x r ≡ true → group c r ≡ group c x → Q r → Q x) where
    by_readers : (x : ℕ) (rs : List ℕ) → is_inlined c.inlining x ≡ true → find_common_group c rs ≡ Some (group c x)
        → All (λ r. is_reader_of_stage job x r ≡ true) rs
        → ((r : ℕ) → rank_of job.stages x < rank_of job.stages r → Q r) → Q x
    by_readers x [] inlined shared read higher = absurd (cc)
    by_readers x (r ∷ rs) inlined shared read higher =
        let reads = All-head (λ r. is_reader_of_stage job x r ≡ true) r rs read in
        let same = All-head (λ r. group c r ≡ group c x) r rs (group_shared c (r ∷ rs) (group c x) shared) in
        further x r inlined reads same (higher r (reader_is_behind job x r valid reads))

    by_flag : (b : Bool) (x : ℕ) → is_inlined c.inlining x ≡ b → ((r : ℕ) → rank_of job.stages x < rank_of job.stages r → Q r) → Q x
    by_flag false x off higher = first x off
    by_flag true x inlined higher = by_readers x (readers job x) inlined (follow.shared x inlined) (readers_read job x) higher

    -- as many steps are enough as there are ranks above that of the stage
    in_steps : (n x : ℕ) → greatest_rank job.stages < n + rank_of job.stages x → Q x
    in_steps zero x enough = absurd (let low = rank_below job.stages x in omega arith)
    in_steps (suc n) x enough =
        by_flag (is_inlined c.inlining x) x refl
        (λ r high. in_steps n r (enough_left (greatest_rank job.stages) n (rank_of job.stages x) (rank_of job.stages r) enough high))

    of_each : (x : ℕ) → Q x
    of_each x = in_steps (suc (greatest_rank job.stages)) x (all_enough (greatest_rank job.stages) (rank_of job.stages x))

  -- a chain leads from the group of each stage to it
  chain_from_group : (x : ℕ) → ChainLeads job c.inlining (group c x) x
  chain_from_group = of_each (λ x. ChainLeads job c.inlining (group c x) x)
      (λ x off. subst (λ t. ChainLeads job c.inlining t x) (sym (follow.own x off)) itself)
      (λ x r inlined reads same chain. on r x (subst (λ t. ChainLeads job c.inlining t r) same chain) reads inlined)

  group_is_stored : (x : ℕ) → is_inlined c.inlining (group c x) ≡ false
  group_is_stored = of_each (λ x. is_inlined c.inlining (group c x) ≡ false)
      (λ x off. ap (is_inlined c.inlining) (follow.own x off) ∙ off)
      (λ x r inlined reads same stored. ap (is_inlined c.inlining) (sym same) ∙ stored)

-- ---- chains

-- a chain from a stored stage leads to stages that have it as their group
group_of_chain : (job : Pipeline) (c : Grouping) (t x : ℕ) → GroupsFollow job c → is_inlined c.inlining t ≡ false
    → ChainLeads job c.inlining t x → group c x ≡ t
group_of_chain job c t _ follow stored itself = follow.own t stored
group_of_chain job c t _ follow stored (on r x chain reads inlined) =
    let same = All-contains (λ r. group c r ≡ group c x) (readers job x) r
    (group_shared c (readers job x) (group c x) (follow.shared x inlined)) (is_reader job x r reads) in
    sym same ∙ group_of_chain job c t r follow stored chain

chains_are_groups : (job : Pipeline) (c : Grouping) (t x : ℕ) → IsJob job → GroupsFollow job c → is_inlined c.inlining t ≡ false
    → ChainLeads job c.inlining t x ↔ (group c x ≡ t)
chains_are_groups job c t x valid follow stored = (
  group_of_chain job c t x follow stored,
  (λ is. subst (λ y. ChainLeads job c.inlining y x) is (chain_from_group job c valid follow x)),
)

-- ---- the law

pub groups_after : (job : Pipeline) (percent k t x : ℕ) → IsJob job → is_inlined (grouping_after job percent k).inlining t ≡ false
    → ChainLeads job (grouping_after job percent k).inlining t x ↔ (group (grouping_after job percent k) x ≡ t)
groups_after job percent k t x valid stored =
    chains_are_groups job (grouping_after job percent k) t x valid (follow_after job percent k valid) stored

pub groups_at_last : (job : Pipeline) (percent t x : ℕ) → IsJob job → is_inlined (greedy_inlining job percent) t ≡ false
    → ChainLeads job (greedy_inlining job percent) t x ↔ (group (group_stages_greedily job percent) x ≡ t)
unfolding greedy_inlining
groups_at_last job percent t x valid stored =
    chains_are_groups job (group_stages_greedily job percent) t x valid (follow_at_last job percent valid) stored

pub groups_are_stored : (job : Pipeline) (percent x : ℕ) → IsJob job
    → is_inlined (greedy_inlining job percent) (group (group_stages_greedily job percent) x) ≡ false
unfolding greedy_inlining
groups_are_stored job percent x valid = group_is_stored job (group_stages_greedily job percent) valid (follow_at_last job percent valid) x
