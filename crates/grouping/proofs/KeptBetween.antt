-- What is kept of readers tells whether the box in a tile lies between others.
use Rattle.std.proofs.Common.{ℕ, ◌<◌, ◌≡◌, nat_eq, Bool, true, false, Option, Some, None, List, [], ◌∷◌, ◌++◌, length}
use Rattle.std.proofs.Common.{◌⊎◌, inl, inr, get_or, refl, sym, ap, subst, ◌∙◌}
use Rattle.std.specs.Prelude.{All, IfSome, slice_get, if◌then◌else◌}
use Rattle.std.proofs.lemmas.Option.{same_Some}
use Rattle.domains.specs.declared.area.Area.{Area}
use Rattle.job.specs.Pipeline.{Pipeline}
use Rattle.job.specs.WellFormed.{IsJob}
use Rattle.grouping.specs.Greedy.{Grouping, group}
use Rattle.tile_boxes.specs.Schedules.{is_inlined}
use Rattle.tile_boxes.specs.Targets.{Target, box, region, target_over}
use Rattle.grouping.specs.inside.Between.{IsWhole, find_kept_region, IsBetween, IsNumberedTile, HasWhole, AreWhole}
use Rattle.grouping.specs.inside.Standings.{areas_at, AllStand}
use Rattle.grouping.specs.inside.Trials.{grouping_of, find_kept_box, IsCandidate}
use Rattle.grouping.specs.declared.between.NumberedTile.{NumberedTile}
use Rattle.grouping.specs.declared.greedy.Grouper.{Grouper}
use Rattle.grouping.specs.declared.standing.StageStatus.{StageStatus}
use Rattle.grouping.specs.declared.trial.InlineCandidate.{InlineCandidate}
use Rattle.grouping.proofs.BoxesBetween.{IsSpared, derive_inner_box}
use Rattle.grouping.proofs.GreedyIsTheRule.{readers_there, last_or_before}
use Rattle.grouping.proofs.KeptIsBox.{kept_is_region}
use Rattle.grouping.proofs.ReadersMakeBoxes.{group_shared}

-- the region that is kept of a reader is its region
region_is : (job : Pipeline) (c : Grouping) (standings : List StageStatus) (h r : ℕ) (spot : NumberedTile) → AllStand job c standings
    → r < length job.stages → group c r ≡ h → IsNumberedTile job h spot
    → find_kept_region standings h spot r ≡ region (target_over job c.inlining h spot.tile) r
region_is job c standings h r spot stand there at is = by (nat_eq r h) refl
  where
    t : Target
    t = target_over job c.inlining h spot.tile

    by : (b : Bool) → nat_eq r h ≡ b → find_kept_region standings h spot r ≡ region t r
    by true e =
        ap (λ b. if b then Some spot.tile else find_kept_box (slice_get standings r) spot.place) e
        ∙ sym (ap (λ b. if b then Some spot.tile else (if is_inlined c.inlining r then box t r else None)) e)
    by false e =
        ap (λ b. if b then Some spot.tile else find_kept_box (slice_get standings r) spot.place) e
        ∙ kept_is_region job c standings h r spot.place spot.tile stand there at e is

-- the box lies between two that are whole, where the regions of all readers do
pub kept_between : (job : Pipeline) (c : Grouper) (k : InlineCandidate) (here left top : NumberedTile) (a b : Area) → IsJob job
    → AllStand job (grouping_of c) c.standings.items → IsCandidate job (grouping_of c) k → IsNumberedTile job k.group here
    → IsNumberedTile job k.group left → IsNumberedTile job k.group top → HasWhole job c k left a → HasWhole job c k top b
    → All (λ r. IsBetween (find_kept_region c.standings.items k.group here r) (find_kept_region c.standings.items k.group left r)
    (find_kept_region c.standings.items k.group top r)) k.readers.items
    → box (target_over job c.inlining k.group here.tile) k.number ≡ Some (record { rows = a.rows; cols = b.cols })
kept_between job c k here left top a b is stand candidate at at_left at_top one other between =
    let h = k.group in
    let t : NumberedTile → Target = λ spot. target_over job c.inlining h spot.tile in
    let there : All (λ r. r < length job.stages) k.readers.items =
    subst (λ (rs : List ℕ). All (λ r. r < length job.stages) rs) (sym candidate.read) (readers_there job k.number) in
    let shared = group_shared (grouping_of c) k.readers.items h candidate.shared in
    let region_at : (spot : NumberedTile) (r : ℕ) → IsNumberedTile job h spot → r < length job.stages → group (grouping_of c) r ≡ h
    → find_kept_region c.standings.items h spot r ≡ region (t spot) r =
    λ spot r spot_is low same. region_is job (grouping_of c) c.standings.items h r spot stand low same spot_is in
    let spared : All (IsSpared (t here) (t left) (t top)) k.readers.items = λ q d low.
    let r = get_or k.readers.items q d in
    let low_r = there q d low in
    let same = shared q d low in
    let r_here = region_at here r at low_r same in
    let r_left = region_at left r at_left low_r same in
    let r_top = region_at top r at_top low_r same in
    record {
      left = subst (IsWhole (slice_get job.stages r)) r_left (one.readers q d low);
      top = subst (IsWhole (slice_get job.stages r)) r_top (other.readers q d low);
      between = subst (λ (o : Option Area). IsBetween o (region (t left) r) (region (t top) r)) r_here
          (subst (λ (o : Option Area). IsBetween (find_kept_region c.standings.items h here r) o (region (t top) r)) r_left
          (subst (λ (o : Option Area). IsBetween (find_kept_region c.standings.items h here r) (find_kept_region c.standings.items h left r) o) r_top
          (between q d low)));
    } in
    derive_inner_box (t here) (t left) (t top) k.number a b is refl refl
    (subst (λ (rs : List ℕ). All (IsSpared (t here) (t left) (t top)) rs) candidate.read spared) one.is other.is

-- of one tile more it is known
pub one_more_whole : (job : Pipeline) (c : Grouper) (k : InlineCandidate) (wholes after : List (Option Area)) (spot : NumberedTile) (o : Option Area)
    → AreWhole job c k wholes → length wholes ≡ spot.place → IsNumberedTile job k.group spot → IfSome o (HasWhole job c k spot)
    → after ≡ wholes ++ o ∷ [] → AreWhole job c k after
one_more_whole job c k wholes after spot o was next at here is other area other_at known =
    from (last_or_before wholes o (Some area) other.place (ap (λ xs. slice_get xs other.place) (sym is) ∙ known))
  where
    from : (slice_get wholes other.place ≡ Some (Some area)) ⊎ ((other.place ≡ length wholes) × (Some area ≡ o)) → HasWhole job c k other area
    from (inl before) = was other area other_at before
    from (inr (last, same)) =
        let place : spot.place ≡ other.place = sym next ∙ sym last in
        let tile : spot.tile ≡ other.tile = same_Some spot.tile other.tile
        (sym at ∙ ap (slice_get (areas_at job k.group)) place ∙ other_at) in
        let spot_is : spot ≡ other = (λ i. record { place = place i; tile = tile i }) in
        subst (λ (s : NumberedTile). HasWhole job c k s area) spot_is
        (subst (λ (p : Option Area). IfSome p (HasWhole job c k spot)) (sym same) here)
