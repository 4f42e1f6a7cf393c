-- One function more is inlined: how the stages stand then.
use Rattle.std.proofs.Common.{ℕ, ◌+◌, ◌*◌, ◌<◌, ◌≤◌, ◌⊎◌, inl, inr, arith, ◌≡◌, ◌≢◌, nat_eq, true, false, Option, Some, None}
use Rattle.std.proofs.Common.{List, [], ◌∷◌, map, length, refl, sym, ap, subst, ◌∙◌}
use Rattle.std.specs.Prelude.{All, nat_le, slice_get, slice_set, slice_index_or, if◌then◌else◌}
use Rattle.std.specs.List.{sum, list_all}
use Rattle.std.specs.Option.{option_map_or}
use Rattle.std.proofs.Math.Nat.{le_refl, lt_of_le_of_lt, lt_trans}
use Rattle.std.proofs.lemmas.Bool.{cases_eq, false≢true, ne_eqb}
use Rattle.std.proofs.lemmas.List.{length-set, get_or-set_same, get_or-set_other}
use Rattle.std.proofs.lemmas.List.Elements.{All-nil, All-cons, All-head, All-tail}
use Rattle.std.proofs.lemmas.Option.{slice_get_cases, slice_get_within, same_Some}
use Rattle.domains.specs.declared.area.Area.{Area}
use Rattle.domains.proofs.Places.{slice_get-set_same, slice_get-set_other}
use Rattle.job.specs.Pipeline.{Stage, Pipeline, rank_of}
use Rattle.job.specs.WellFormed.{IsJob}
use Rattle.job.proofs.TotalLaws.{map_same}
use Rattle.tile_boxes.specs.Schedules.{is_inlined, is_function_stage}
use Rattle.tile_boxes.specs.Targets.{Target, box, region, target_over}
use Rattle.tile_boxes.specs.Costs.{scratch, most_scratch}
use Rattle.grouping.specs.Greedy.{is_reader_of_stage, readers, Grouping, group, find_common_group, with_inlined, cost_or_zero, pays, has_room}
use Rattle.grouping.specs.inside.Standings.{areas_at, boxes_by_tile, StandsStored, StandsInlined, Stands, AllStand, NoneInlinedBelow}
use Rattle.grouping.specs.inside.Crossed.{boxes_in}
use Rattle.grouping.specs.inside.Trials.{count_box_points, find_kept_cost_of_stored_stage}
use Rattle.grouping.specs.declared.standing.StageStatus.{StageStatus}
use Rattle.grouping.specs.declared.standing.StageStatus.TheVariants.{Stored, Inlined}
use Rattle.grouping.proofs.CostsGrow.{other_flag, box_stays, cost_grows, scratch_rises, room_is, cost_stays, scratch_stays, room_stays}
use Rattle.grouping.proofs.ReadersMakeBoxes.{no_box, reader_is_behind, readers_read, group_shared}

-- ---- the standing of a stage

-- what has a rank is there
beyond : (stages : List Stage) (n r : ℕ) → n < rank_of stages r → r < length stages
beyond stages n r low = by (slice_get stages r) refl low
  where
    by : (o : Option Stage) → slice_get stages r ≡ o → n < option_map_or (λ (s : Stage). s.rank) o 0 → r < length stages
    by None e k = absurd (omega (arith, k))
    by (Some s) e k = slice_get_within stages r s e

-- what follows for stored stages and for inlined ones follows for each that is there
with_standing : (P : Type 0) (job : Pipeline) (c : Grouping) (standings : List StageStatus) (r : ℕ) → AllStand job c standings
    → r < length job.stages
    → ((n : ℕ) (tiles : List ℕ) → StandsStored job c r n tiles → P) → ((boxes : List (Option Area)) → StandsInlined job c r boxes → P) → P
with_standing P job c standings r stand there stored inlined = by (slice_get_cases standings r).1
  where
    from : (s : StageStatus) → Stands job c r s → P
    from (Stored n tiles) k = stored n tiles.items k
    from (Inlined boxes) k = inlined (boxes_in boxes) k

    by : ((s : StageStatus) × (r < length standings) × (slice_get standings r ≡ Some s) × (slice_index_or standings r s ≡ s))
        ⊎ ((length standings ≤ r) × (slice_get standings r ≡ None)) → P
    by (inl (s, below, is, same)) = from s (stand.each r s is)
    by (inr (past, none)) = let all = stand.all in absurd (omega (arith, past, there, all))

-- ---- the group of a function's readers

abbrev IsGroup : Pipeline → Grouping → ℕ → ℕ → Type 0
IsGroup job c g h = (is_inlined c.inlining h ≡ false) × (rank_of job.stages g < rank_of job.stages h) × (h < length job.stages)

group_of_reader : (job : Pipeline) (c : Grouping) (standings : List StageStatus) (g r : ℕ) → AllStand job c standings
    → rank_of job.stages g < rank_of job.stages r → IsGroup job c g (group c r)
group_of_reader job c standings g r stand low = with_standing (IsGroup job c g (group c r)) job c standings r stand there stored inlined
  where
    there : r < length job.stages
    there = beyond job.stages (rank_of job.stages g) r low

    stored : (n : ℕ) (tiles : List ℕ) → StandsStored job c r n tiles → IsGroup job c g (group c r)
    stored n tiles s = subst (IsGroup job c g) (sym s.own) (s.stored, low, there)

    inlined : (boxes : List (Option Area)) → StandsInlined job c r boxes → IsGroup job c g (group c r)
    inlined boxes s =
        let high = lt_trans low s.before in
        (s.at_group, high, beyond job.stages (rank_of job.stages g) (group c r) high)

group_of_readers : (job : Pipeline) (c : Grouping) (standings : List StageStatus) (g h : ℕ) (rs : List ℕ) → IsJob job
    → AllStand job c standings → All (λ r. is_reader_of_stage job g r ≡ true) rs → find_common_group c rs ≡ Some h → IsGroup job c g h
group_of_readers job c standings g h [] is stand read shared = absurd (cc)
group_of_readers job c standings g h (r ∷ rs) is stand read shared =
    let behind = reader_is_behind job g r is (All-head (λ r. is_reader_of_stage job g r ≡ true) r rs read) in
    subst (IsGroup job c g) (All-head (λ r. group c r ≡ h) r rs (group_shared c (r ∷ rs) h shared))
    (group_of_reader job c standings g r stand behind)

-- the one group of a function's readers is stored, is there, and has a greater rank
pub group_is : (job : Pipeline) (c : Grouping) (standings : List StageStatus) (g h : ℕ) → IsJob job → AllStand job c standings
    → find_common_group c (readers job g) ≡ Some h
    → (is_inlined c.inlining h ≡ false) × (rank_of job.stages g < rank_of job.stages h) × (h < length job.stages)
group_is job c standings g h is stand shared = group_of_readers job c standings g h (readers job g) is stand (readers_read job g) shared

-- ---- elsewhere the function has no box

out_of : (job : Pipeline) (c : Grouping) (standings : List StageStatus) (g r k : ℕ) (a : Area) → AllStand job c standings
    → rank_of job.stages g < rank_of job.stages r
    → is_inlined c.inlining k ≡ false → k ≢ group c r → region (target_over job c.inlining k a) r ≡ None
out_of job c standings g r k a stand low off apart =
    with_standing (region t r ≡ None) job c standings r stand (beyond job.stages (rank_of job.stages g) r low) stored inlined
  where
    t : Target
    t = target_over job c.inlining k a

    stored : (n : ℕ) (tiles : List ℕ) → StandsStored job c r n tiles → region t r ≡ None
    stored n tiles s =
        let other : nat_eq r k ≡ false = ne_eqb r k (λ e. apart (sym e ∙ sym s.own)) in
        (λ i. if other i then Some a else (if s.stored i then box t r else None))

    inlined : (boxes : List (Option Area)) → StandsInlined job c r boxes → region t r ≡ None
    inlined boxes s =
        let other : nat_eq r k ≡ false = ne_eqb r k (λ e. false≢true (sym off ∙ ap (is_inlined c.inlining) (sym e) ∙ s.inlined)) in
        (λ i. if other i then Some a else (if s.inlined i then s.elsewhere k a off apart i else None))

out_of_all : (job : Pipeline) (c : Grouping) (standings : List StageStatus) (g h k : ℕ) (a : Area) (rs : List ℕ) → IsJob job
    → AllStand job c standings → is_inlined c.inlining k ≡ false → k ≢ h
    → All (λ r. is_reader_of_stage job g r ≡ true) rs → All (λ r. group c r ≡ h) rs → All (λ r. region (target_over job c.inlining k a) r ≡ None) rs
out_of_all job c standings g h k a [] is stand off apart read shared = All-nil (λ r. region (target_over job c.inlining k a) r ≡ None)
out_of_all job c standings g h k a (r ∷ rs) is stand off apart read shared =
    let behind = reader_is_behind job g r is (All-head (λ r. is_reader_of_stage job g r ≡ true) r rs read) in
    let here = All-head (λ r. group c r ≡ h) r rs shared in
    All-cons (λ r. region (target_over job c.inlining k a) r ≡ None) r rs
    (out_of job c standings g r k a stand behind off (λ e. apart (e ∙ here)))
    (out_of_all job c standings g h k a rs is stand off apart (All-tail (λ r. is_reader_of_stage job g r ≡ true) r rs read)
    (All-tail (λ r. group c r ≡ h) r rs shared))

-- a function has no box in the tiles of stored stages other than the one group of its readers
pub none_elsewhere : (job : Pipeline) (c : Grouping) (standings : List StageStatus) (g h : ℕ) → IsJob job → AllStand job c standings
    → find_common_group c (readers job g) ≡ Some h
    → (k : ℕ) (a : Area) → is_inlined c.inlining k ≡ false → (k ≡ h → ⊥) → box (target_over job c.inlining k a) g ≡ None
none_elsewhere job c standings g h is stand shared k a off apart =
    no_box (target_over job c.inlining k a) g is
    (out_of_all job c standings g h k a (readers job g) is stand off apart (readers_read job g) (group_shared c (readers job g) h shared))

-- ---- one function more

-- a stored function g, with the functions inlined so far after it, whose readers have the one group h
pub record IsStep (job : Pipeline) (c : Grouping) (standings : List StageStatus) (g h : ℕ) : Type 0 where
  pub valid : IsJob job
  pub stand : AllStand job c standings
  pub there : g < length job.stages
  pub function : is_function_stage job g ≡ true
  pub stored : is_inlined c.inlining g ≡ false
  pub behind : NoneInlinedBelow job c.inlining g
  pub shared : find_common_group c (readers job g) ≡ Some h

pub ranks_differ : (stages : List Stage) (g h : ℕ) → rank_of stages g < rank_of stages h → h ≢ g
ranks_differ stages g h low e = let same : rank_of stages h ≡ rank_of stages g = ap (rank_of stages) e in absurd (omega arith)

-- what stands in a list after two writes
set_twice : {X : Type 0} (xs : List X) (g h x : ℕ) (s s' y : X) → g < length xs → h < length xs
    → slice_get (slice_set (slice_set xs g s) h s') x ≡ Some y
    → ((x ≡ h) × (s' ≡ y)) ⊎ (((x ≡ g) × (s ≡ y)) ⊎ ((x ≢ h) × (x ≢ g) × (slice_get xs x ≡ Some y)))
set_twice {X} xs g h x s s' y below below' is = second (cases_eq x h)
  where
    first : x ≢ h → slice_get (slice_set xs g s) x ≡ Some y → (x ≡ g) ⊎ (x ≡ g → ⊥)
        → ((x ≡ h) × (s' ≡ y)) ⊎ (((x ≡ g) × (s ≡ y)) ⊎ ((x ≢ h) × (x ≢ g) × (slice_get xs x ≡ Some y)))
    first apart was (inl e) =
        inr (inl (e, same_Some s y (sym (slice_get-set_same xs g s below) ∙ ap (slice_get (slice_set xs g s)) (sym e) ∙ was)))
    first apart was (inr other) = inr (inr (apart, other, sym (slice_get-set_other xs g x s other) ∙ was))

    second : (x ≡ h) ⊎ (x ≡ h → ⊥) → ((x ≡ h) × (s' ≡ y)) ⊎ (((x ≡ g) × (s ≡ y)) ⊎ ((x ≢ h) × (x ≢ g) × (slice_get xs x ≡ Some y)))
    second (inl e) =
        let same = length-set xs g s in
        let last = slice_get-set_same (slice_set xs g s) h s' (omega arith) in
        inl (e, same_Some s' y (sym last ∙ ap (slice_get (slice_set (slice_set xs g s) h s')) (sym e) ∙ is))
    second (inr apart) = first apart (sym (slice_get-set_other (slice_set xs g s) h x s' apart) ∙ is) (cases_eq x g)

module _ {job : Pipeline} {c : Grouping} {standings : List StageStatus} {g h : ℕ} (step : IsStep job c standings g h) where
  step_group : IsGroup job c g h
  step_group = group_is job c standings g h step.valid step.stand step.shared

  group_differs : h ≢ g
  group_differs = ranks_differ job.stages g h step_group.1

  -- g and h as the lemmas on what grows compare them
  other_stage : nat_eq g h ≡ false
  other_stage = ne_eqb g h (λ e. group_differs (sym e))

  flag_there : g < length c.inlining
  flag_there = let same = step.stand.inlining in let there = step.there in omega arith

  group_there : g < length c.groups
  group_there = let same = step.stand.groups in let there = step.there in omega arith

  -- ---- inlining, groups and boxes afterwards

  flag_stays : (x : ℕ) → x ≢ g → is_inlined (slice_set c.inlining g true) x ≡ is_inlined c.inlining x
  flag_stays x other = other_flag c.inlining g x (ne_eqb x g other)

  flag_is_set : is_inlined (slice_set c.inlining g true) g ≡ true
  flag_is_set = get_or-set_same c.inlining g true false flag_there

  new_group : group (with_inlined c g h) g ≡ h
  new_group = get_or-set_same c.groups g h g group_there

  group_stays : (x : ℕ) → x ≢ g → group (with_inlined c g h) x ≡ group c x
  group_stays x other = get_or-set_other c.groups g x h x other

  stored_differs : (k : ℕ) → is_inlined (slice_set c.inlining g true) k ≡ false → k ≢ g
  stored_differs k off e = false≢true (sym off ∙ ap (is_inlined (slice_set c.inlining g true)) e ∙ flag_is_set)

  boxes_stay : (k x : ℕ) → rank_of job.stages g ≤ rank_of job.stages x
      → boxes_by_tile job (slice_set c.inlining g true) k x ≡ boxes_by_tile job c.inlining k x
  boxes_stay k x low =
      map_same (λ a. box (target_over job (slice_set c.inlining g true) k a) x) (λ a. box (target_over job c.inlining k a) x)
      (areas_at job k)
      (λ a. box_stays (target_over job c.inlining k a) g x step.valid low)

  -- a stage has no box where it had none
  still_elsewhere : (x z : ℕ) → rank_of job.stages g ≤ rank_of job.stages x
      → ((k : ℕ) (a : Area) → is_inlined c.inlining k ≡ false → (k ≡ z → ⊥) → box (target_over job c.inlining k a) x ≡ None)
      → (k : ℕ) (a : Area) → is_inlined (slice_set c.inlining g true) k ≡ false → (k ≡ z → ⊥) → box
      (target_over job (slice_set c.inlining g true) k a) x ≡ None
  still_elsewhere x z low none k a off apart =
      box_stays (target_over job c.inlining k a) g x step.valid low ∙ none k a (sym (flag_stays k (stored_differs k off)) ∙ off) apart

  -- an inlined stage stands so with its group z
  inlined_by : (x z : ℕ) (boxes : List (Option Area)) → rank_of job.stages g ≤ rank_of job.stages x → z ≢ g
      → group (with_inlined c g h) x ≡ z → is_inlined (slice_set c.inlining g true) x ≡ true → is_inlined c.inlining z ≡ false
      → rank_of job.stages x < rank_of job.stages z → boxes ≡ boxes_by_tile job c.inlining z x
      → ((k : ℕ) (a : Area) → is_inlined c.inlining k ≡ false → (k ≡ z → ⊥) → box (target_over job c.inlining k a) x ≡ None)
      → StandsInlined job (with_inlined c g h) x boxes
  inlined_by x z boxes low other same on off before are none = record {
    inlined = on;
    at_group = ap (is_inlined (slice_set c.inlining g true)) same ∙ flag_stays z other ∙ off;
    before = subst (λ y. rank_of job.stages x < rank_of job.stages y) (sym same) before;
    boxes = are ∙ sym (boxes_stay z x low) ∙ ap (λ y. boxes_by_tile job (slice_set c.inlining g true) y x) (sym same);
    elsewhere = λ k a stored apart. still_elsewhere x z low none k a stored (λ e. apart (e ∙ sym same));
  }

  -- ---- the function and its group

  -- with its boxes in the tiles of h, g stands inlined
  pub function_stands : (boxes : List (Option Area)) → boxes ≡ boxes_by_tile job c.inlining h g
      → StandsInlined job (with_inlined c g h) g boxes
  function_stands boxes are =
      inlined_by g h boxes (le_refl (rank_of job.stages g)) group_differs new_group flag_is_set step_group.0 step_group.1 are
      (none_elsewhere job c standings g h step.valid step.stand step.shared)

  group_is_own : group c h ≡ h
  group_is_own =
      with_standing (group c h ≡ h) job c standings h step.stand step_group.2 (λ n tiles s. s.own)
      (λ boxes s. absurd (false≢true (sym step_group.0 ∙ s.inlined)))

  -- with the points of those boxes added, h stands stored
  pub group_stands : (n : ℕ) (tiles : List ℕ)
      → n ≡ cost_or_zero job c.inlining h + sum (map count_box_points (boxes_by_tile job c.inlining h g))
      → tiles ≡ map (λ a. scratch (target_over job c.inlining h a) + count_box_points (box (target_over job c.inlining h a) g))
      (areas_at job h)
      → list_all (λ n. nat_le n most_scratch) tiles ≡ true → StandsStored job (with_inlined c g h) h n tiles
  group_stands n tiles points scratches room =
      let off : is_inlined (slice_set c.inlining g true) h ≡ false = flag_stays h group_differs ∙ step_group.0 in
      let rises = scratch_rises job c.inlining g h step.valid step.function other_stage step.stored flag_there step.behind step_group.0 in
      record {
        stored = off;
        own = group_stays h group_differs ∙ group_is_own;
        costs = points
            ∙ sym (cost_grows job c.inlining g h step.valid step.function other_stage step.stored flag_there step.behind step_group.0);
        in_scratch = scratches ∙ sym rises;
        room = room_is job (slice_set c.inlining g true) h off ∙ ap (list_all (λ n. nat_le n most_scratch)) (rises ∙ sym scratches) ∙ room;
      }

  -- ---- all other stages

  other_stored : (x n : ℕ) (tiles : List ℕ) → x ≢ g → x ≢ h → StandsStored job c x n tiles → StandsStored job (with_inlined c g h) x n tiles
  other_stored x n tiles other apart s =
      let differ : nat_eq g x ≡ false = ne_eqb g x (λ e. other (sym e)) in
      let none = λ (a : Area). none_elsewhere job c standings g h step.valid step.stand step.shared x a s.stored apart in
      record {
        stored = flag_stays x other ∙ s.stored;
        own = group_stays x other ∙ s.own;
        costs =
            s.costs ∙ sym (cost_stays job c.inlining g x step.valid step.function differ step.stored flag_there step.behind s.stored none);
        in_scratch = s.in_scratch
            ∙ sym (scratch_stays job c.inlining g x step.valid step.function differ step.stored flag_there step.behind s.stored none);
        room = room_stays job c.inlining g x step.valid step.function differ step.stored flag_there step.behind s.stored none ∙ s.room;
      }

  other_inlined : (x : ℕ) (boxes : List (Option Area)) → x ≢ g → StandsInlined job c x boxes
      → StandsInlined job (with_inlined c g h) x boxes
  other_inlined x boxes other s =
      let low = step.behind x s.inlined in
      let high = lt_of_le_of_lt low s.before in
      inlined_by x (group c x) boxes low (ranks_differ job.stages g (group c x) high) (group_stays x other)
      (flag_stays x other ∙ s.inlined) s.at_group s.before s.boxes s.elsewhere

  other_stands : (x : ℕ) (y : StageStatus) → x ≢ g → x ≢ h → Stands job c x y → Stands job (with_inlined c g h) x y
  other_stands x (Stored n tiles) other apart k = other_stored x n tiles.items other apart k
  other_stands x (Inlined boxes) other apart k = other_inlined x (boxes_in boxes) other k

  each_stands : (s s' : StageStatus) → Stands job (with_inlined c g h) g s → Stands job (with_inlined c g h) h s'
      → (x : ℕ) (y : StageStatus) → slice_get (slice_set (slice_set standings g s) h s') x ≡ Some y → Stands job (with_inlined c g h) x y
  each_stands s s' here there x y is =
      by (set_twice standings g h x s s' y (let all = step.stand.all in let there = step.there in omega arith)
      (let all = step.stand.all in let there = step_group.2 in omega arith) is)
    where
      by : ((x ≡ h) × (s' ≡ y)) ⊎ (((x ≡ g) × (s ≡ y)) ⊎ ((x ≢ h) × (x ≢ g) × (slice_get standings x ≡ Some y)))
          → Stands job (with_inlined c g h) x y
      by (inl (e, same)) = subst (λ z. Stands job (with_inlined c g h) z y) (sym e) (subst (Stands job (with_inlined c g h) h) same there)
      by (inr (inl (e, same))) =
          subst (λ z. Stands job (with_inlined c g h) z y) (sym e) (subst (Stands job (with_inlined c g h) g) same here)
      by (inr (inr (apart, other, was))) = other_stands x y other apart (step.stand.each x y was)

  -- all stages stand as they should when g is inlined in h; s and s' are the standings of g and h then
  pub all_stand : (s s' : StageStatus) → Stands job (with_inlined c g h) g s → Stands job (with_inlined c g h) h s'
      → AllStand job (with_inlined c g h) (slice_set (slice_set standings g s) h s')
  all_stand s s' here there = record {
    inlining = length-set c.inlining g true ∙ step.stand.inlining;
    groups = length-set c.groups g h ∙ step.stand.groups;
    all = length-set (slice_set standings g s) h s' ∙ length-set standings g s ∙ step.stand.all;
    each = each_stands s s' here there;
  }

  -- ---- what the code compares is the rule

  -- by their points
  pub pays_is : (percent own apart added : ℕ) → own ≡ cost_or_zero job c.inlining h → apart ≡ cost_or_zero job c.inlining g
      → added ≡ sum (map count_box_points (boxes_by_tile job c.inlining h g))
      → nat_le (100 * (own + added)) ((100 + percent) * (own + apart)) ≡ pays job percent c.inlining g h
  pays_is percent own apart added owns aparts adds =
      let more = cost_grows job c.inlining g h step.valid step.function other_stage step.stored flag_there step.behind step_group.0 in
      (λ i. nat_le (100 * (owns i + adds i)) ((100 + percent) * (owns i + aparts i)))
      ∙ ap (λ n. nat_le (100 * n) ((100 + percent) * (cost_or_zero job c.inlining h + cost_or_zero job c.inlining g))) (sym more)

  -- and by the room in each tile
  pub fits_is : (tiles : List ℕ)
      → tiles
      ≡ map (λ a. scratch (target_over job c.inlining h a) + count_box_points (box (target_over job c.inlining h a) g)) (areas_at job h)
      → list_all (λ n. nat_le n most_scratch) tiles ≡ has_room job c.inlining g h
  fits_is tiles are =
      ap (list_all (λ n. nat_le n most_scratch))
      (are ∙ sym (scratch_rises job c.inlining g h step.valid step.function other_stage step.stored flag_there step.behind step_group.0))
      ∙ sym (room_is job (slice_set c.inlining g true) h (flag_stays h group_differs ∙ step_group.0))

-- ---- what is kept

-- the points that are kept of a stored stage are those of the definition
pub points_kept : (job : Pipeline) (c : Grouping) (standings : List StageStatus) (g : ℕ) → AllStand job c standings → g < length job.stages
    → is_inlined c.inlining g ≡ false → find_kept_cost_of_stored_stage (slice_get standings g) ≡ cost_or_zero job c.inlining g
points_kept job c standings g stand there off = by (slice_get_cases standings g).1
  where
    from : (s : StageStatus) → Stands job c g s → find_kept_cost_of_stored_stage (Some s) ≡ cost_or_zero job c.inlining g
    from (Stored n tiles) k = k.costs
    from (Inlined boxes) k = absurd (false≢true (sym off ∙ k.inlined))

    by : ((s : StageStatus) × (g < length standings) × (slice_get standings g ≡ Some s) × (slice_index_or standings g s ≡ s))
        ⊎ ((length standings ≤ g) × (slice_get standings g ≡ None)) → find_kept_cost_of_stored_stage (slice_get standings g) ≡ cost_or_zero job c.inlining g
    by (inl (s, below, is, same)) = ap find_kept_cost_of_stored_stage is ∙ from s (stand.each g s is)
    by (inr (past, none)) = let all = stand.all in absurd (omega (arith, past, there, all))
