-- The greedy rule as visits, one after the other: what holds before each, and what all of them give.
use Rattle.std.proofs.Common.{ℕ, zero, suc, ◌<◌, ◌≤◌, ◌≡◌, nat_eq, Bool, true, false, ◌&&◌, not, Option, Some, None, List, []}
use Rattle.std.proofs.Common.{◌∷◌, ◌++◌, ◌⊎◌, inl, inr, map, length, arith, refl, sym, ap, subst, ◌∙◌}
use Rattle.std.specs.Prelude.{All, slice_get, slice_index_or, if◌then◌else◌}
use Rattle.std.specs.List.{fold, list_all}
use Rattle.std.specs.Option.{option_map_or}
use Rattle.std.proofs.lemmas.Bool.Decides.{nat_tests}
use Rattle.std.proofs.lemmas.List.Elements.{All-nil, All-cons, All-head, All-tail, All-filter}
use Rattle.std.proofs.lemmas.List.{length-map}
use Rattle.std.proofs.lemmas.List.FromFn.{length-range_with_len}
use Rattle.job.specs.Pipeline.{Pipeline, Stage, rank_of}
use Rattle.job.specs.Answers.{has_tiles}
use Rattle.tile_boxes.specs.Order.{backward}
use Rattle.tile_boxes.specs.Schedules.{is_inlined, all_stored, IsSchedule}
use Rattle.tile_boxes.specs.Costs.{survey_stage_costs, AllFitScratch}
use Rattle.tile_boxes.specs.Costs.{tile_targets, has_scratch, stage_fits}
use Rattle.grouping.specs.Greedy.{Grouping, initial_grouping, readers, is_reader_of_stage, visited, group_stages_greedily, greedy_inlining}
use Rattle.grouping.specs.inside.Standings.{areas_at, StandsStored, Stands, AllStand, NoneInlinedBelow}
use Rattle.grouping.specs.declared.standing.StageStatus.{StageStatus}
use Rattle.grouping.specs.declared.standing.StageStatus.TheVariants.{Stored, Inlined}
use Rattle.tile_boxes.proofs.AskedIsSchedule.{stored_is}
use Rattle.grouping.proofs.KeptIsBox.{standing_there}
use Rattle.grouping.proofs.VisitsMakeSchedules.{Falls, IsBehind, backward_falls, backward_there, visited_is, not_yet}
use Rattle.grouping.proofs.VisitsMakeSchedules.{group_at_first, stored_at_first, scratch_at_first, room_at_first, cost_at}
use Rattle.grouping.proofs.VisitsMakeSchedules.{all_have_room}

pub readers_there : (job : Pipeline) (g : ℕ) → All (λ r. r < length job.stages) (readers job g)
readers_there job g = All-filter (is_reader_of_stage job g) (λ r. r < length job.stages) (backward job.stages) (backward_there job.stages)

-- ---- at first

pub stands_at_first : (job : Pipeline) (g n : ℕ) (tiles : List ℕ)
    → n ≡ option_map_or (λ n. n) (slice_index_or (survey_stage_costs job (all_stored job)) g None) 0 → tiles ≡ map (λ a. 0) (areas_at job g)
    → StandsStored job (initial_grouping job) g n tiles
stands_at_first job g n tiles points none = record {
  stored = stored_at_first job g;
  own = group_at_first job g;
  costs = points ∙ ap (λ o. option_map_or (λ n. n) o 0) (cost_at job (all_stored job) g);
  in_scratch = none ∙ sym (scratch_at_first job g);
  room = room_at_first job g;
}

-- one standing more
pub last_or_before : {X : Type 0} (xs : List X) (y z : X) (g : ℕ) → slice_get (xs ++ y ∷ []) g ≡ Some z
    → (slice_get xs g ≡ Some z) ⊎ ((g ≡ length xs) × (z ≡ y))
last_or_before [] y z zero is = inr (refl, (let e : z ≡ y = cc in e))
last_or_before [] y z (suc g) is = absurd (cc)
last_or_before (x ∷ xs) y z zero is = inl is
last_or_before (x ∷ xs) y z (suc g) is = from (last_or_before xs y z g is)
  where
    from : (slice_get xs g ≡ Some z) ⊎ ((g ≡ length xs) × (z ≡ y))
        → (slice_get (x ∷ xs) (suc g) ≡ Some z) ⊎ ((suc g ≡ length (x ∷ xs)) × (z ≡ y))
    from (inl before) = inl before
    from (inr last) = inr (ap suc last.0, last.1)

abbrev pub EachStands : Pipeline → Grouping → List StageStatus → Type 0
EachStands job c standings = (g : ℕ) (s : StageStatus) → slice_get standings g ≡ Some s → Stands job c g s

pub one_stands_more : (job : Pipeline) (c : Grouping) (standings : List StageStatus) (s : StageStatus) → EachStands job c standings
    → Stands job c (length standings) s → EachStands job c (standings ++ s ∷ [])
one_stands_more job c standings s each stands g z is = from (last_or_before standings s z g is)
  where
    from : (slice_get standings g ≡ Some z) ⊎ ((g ≡ length standings) × (z ≡ s)) → Stands job c g z
    from (inl before) = each g z before
    from (inr last) =
        subst (λ (k : ℕ). Stands job c k z) (sym last.0) (subst (λ (y : StageStatus). Stands job c (length standings) y) (sym last.1) stands)

pub all_at_first : (job : Pipeline) (standings : List StageStatus) → length standings ≡ length job.stages
    → EachStands job (initial_grouping job) standings → AllStand job (initial_grouping job) standings
all_at_first job standings all each = record {
  inlining = length-map job.stages (λ s. false);
  groups = length-range_with_len 0 (length job.stages);
  all = all;
  each = each;
}

-- ---- before each visit

-- the stage is stored, and what is inlined comes after it
abbrev pub IsFree : Pipeline → List Bool → ℕ → Type 0
IsFree job inlining g = (is_inlined inlining g ≡ false) × NoneInlinedBelow job inlining g

-- what holds where these stages are left to visit
pub record Left (job : Pipeline) (percent : ℕ) (c : Grouping) (standings : List StageStatus) (rest : List ℕ) : Type 0 where
  pub grouping : fold (visited job percent) c rest ≡ group_stages_greedily job percent
  pub stand : AllStand job c standings
  pub schedule : IsSchedule job c.inlining
  pub falls : Falls job.stages rest
  pub there : All (λ g. g < length job.stages) rest
  pub free : All (IsFree job c.inlining) rest

pub free_at_first : (job : Pipeline) (gs : List ℕ) → All (IsFree job (all_stored job)) gs
free_at_first job [] = All-nil (IsFree job (all_stored job))
free_at_first job (g ∷ gs) =
    All-cons (IsFree job (all_stored job)) g gs (stored_at_first job g, (λ x inlined. absurd (let stored = stored_at_first job x in cc)))
    (free_at_first job gs)

pub all_left : (job : Pipeline) (percent : ℕ) (c : Grouping) (standings : List StageStatus) → c ≡ initial_grouping job
    → AllStand job c standings → Left job percent c standings (backward job.stages)
all_left job percent c standings is stand =
    let inlining : all_stored job ≡ c.inlining = ap (λ (d : Grouping). d.inlining) (sym is) in
    record {
      grouping = ap (λ (d : Grouping). fold (visited job percent) d (backward job.stages)) is;
      stand = stand;
      schedule = subst (IsSchedule job) inlining (stored_is job);
      falls = backward_falls job.stages;
      there = backward_there job.stages;
      free = subst (λ (fs : List Bool). All (IsFree job fs) (backward job.stages)) inlining (free_at_first job (backward job.stages));
    }

-- ---- a visit

same_or_other : (x g : ℕ) → (x ≡ g) ⊎ (nat_eq x g ≡ false)
same_or_other x g = by (nat_eq x g) refl
  where
    by : (b : Bool) → nat_eq x g ≡ b → (x ≡ g) ⊎ (nat_eq x g ≡ false)
    by true e = inl (grind (arith, nat_tests))
    by false e = inr e

free_still : (job : Pipeline) (percent : ℕ) (c : Grouping) (g y : ℕ) → IsBehind job.stages g y → IsFree job c.inlining y
    → IsFree job (visited job percent c g).inlining y
free_still job percent c g y behind free = (not_yet job c percent g y behind.1 ∙ free.0, (λ x inlined. from x inlined (same_or_other x g)))
  where
    from : (x : ℕ) → is_inlined (visited job percent c g).inlining x ≡ true → (x ≡ g) ⊎ (nat_eq x g ≡ false)
        → rank_of job.stages y ≤ rank_of job.stages x
    from x inlined (inl same) = subst (λ (k : ℕ). rank_of job.stages y ≤ rank_of job.stages k) (sym same) behind.0
    from x inlined (inr other) = free.1 x (sym (not_yet job c percent g x other) ∙ inlined)

pub all_free_still : (job : Pipeline) (percent : ℕ) (c : Grouping) (g : ℕ) (ys : List ℕ) → All (IsBehind job.stages g) ys
    → All (IsFree job c.inlining) ys → All (IsFree job (visited job percent c g).inlining) ys
all_free_still job percent c g [] behind free = All-nil (IsFree job (visited job percent c g).inlining)
all_free_still job percent c g (y ∷ ys) behind free =
    All-cons (IsFree job (visited job percent c g).inlining) y ys
    (free_still job percent c g y (All-head (IsBehind job.stages g) y ys behind) (All-head (IsFree job c.inlining) y ys free))
    (all_free_still job percent c g ys (All-tail (IsBehind job.stages g) y ys behind) (All-tail (IsFree job c.inlining) y ys free))

pub one_left_less : (job : Pipeline) (percent : ℕ) (c d : Grouping) (standings after : List StageStatus) (g : ℕ) (rest : List ℕ)
    → Left job percent c standings (g ∷ rest)
    → d ≡ visited job percent c g → AllStand job d after → Left job percent d after rest
one_left_less job percent c d standings after g rest left is stand =
    let inlining : (visited job percent c g).inlining ≡ d.inlining = ap (λ (e : Grouping). e.inlining) (sym is) in
    record {
      grouping = ap (λ (e : Grouping). fold (visited job percent) e rest) is ∙ left.grouping;
      stand = stand;
      schedule = subst (IsSchedule job) inlining (visited_is job percent c g left.schedule);
      falls = left.falls.1;
      there = All-tail (λ x. x < length job.stages) g rest left.there;
      free = subst (λ (fs : List Bool). All (IsFree job fs) rest) inlining
          (all_free_still job percent c g rest left.falls.0 (All-tail (IsFree job c.inlining) g rest left.free));
    }

-- ---- at last

pub inlining_at_last : (job : Pipeline) (percent : ℕ) (c : Grouping) (standings : List StageStatus) → Left job percent c standings []
    → c.inlining ≡ greedy_inlining job percent
unfolding greedy_inlining
inlining_at_last job percent c standings left = ap (λ (d : Grouping). d.inlining) left.grouping

room_of_inlined : (job : Pipeline) (inlining : List Bool) (g : ℕ) (o : Option Stage) → is_inlined inlining g ≡ true
    → stage_fits job inlining g o ≡ true
room_of_inlined job inlining g None inlined = refl
room_of_inlined job inlining g (Some s) inlined =
    ap (λ b. if b then list_all has_scratch (tile_targets job inlining g s) else true) (no_cost (has_tiles s.body))
  where
    no_cost : (b : Bool) → (b && not (is_inlined inlining g)) ≡ false
    no_cost true = ap not inlined
    no_cost false = refl

room_of : (job : Pipeline) (c : Grouping) (g : ℕ) (s : StageStatus) → Stands job c g s
    → stage_fits job c.inlining g (slice_get job.stages g) ≡ true
room_of job c g (Stored n tiles) stands = stands.room
room_of job c g (Inlined tiles) stands = room_of_inlined job c.inlining g (slice_get job.stages g) stands.inlined

pub rooms_of : (job : Pipeline) (c : Grouping) (standings : List StageStatus) → AllStand job c standings → AllFitScratch job c.inlining
rooms_of job c standings stand = all_have_room job c.inlining (λ g there.
    let found = standing_there standings g (length job.stages) stand.all there in
    room_of job c g found.0 (stand.each g found.0 found.1))
