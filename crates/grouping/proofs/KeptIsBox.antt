-- What is kept of each stage, and what is read there.
use Rattle.std.proofs.Common.{ℕ, ◌<◌, ◌≡◌, nat_eq, false, Option, Some, None, List, [], ◌∷◌, map, length, arith, refl, sym, ap}
use Rattle.std.proofs.Common.{subst, ◌∙◌, get_or}
use Rattle.std.specs.Prelude.{slice_get, slice_index_or, if◌then◌else◌, ◌&&◌, IfSome}
use Rattle.std.specs.List.{list_all}
use Rattle.std.specs.Option.{option_map}
use Rattle.std.proofs.lemmas.Bool.{eq-eqb}
use Rattle.std.proofs.lemmas.Bool.Decides.{nat_tests}
use Rattle.std.proofs.lemmas.Option.{slice_get-map, get_or_from_slice_get, slice_get-get_or}
use Rattle.domains.specs.declared.area.Area.{Area}
use Rattle.job.specs.Pipeline.{Pipeline}
use Rattle.job.specs.WellFormed.{IsJob}
use Rattle.tile_boxes.specs.Schedules.{is_inlined}
use Rattle.tile_boxes.specs.Costs.{scratch}
use Rattle.tile_boxes.specs.Targets.{Target, IsTarget, box, region, target_over}
use Rattle.tile_boxes.specs.Walks.{InDomainRanges}
use Rattle.grouping.specs.Greedy.{Grouping, group, find_common_group}
use Rattle.grouping.specs.inside.Standings.{areas_at, boxes_by_tile, Stands, AllStand}
use Rattle.grouping.specs.inside.Crossed.{boxes_in}
use Rattle.grouping.specs.inside.Trials.{find_kept_box, find_kept_scratch}
use Rattle.grouping.specs.declared.standing.StageStatus.{StageStatus}
use Rattle.grouping.specs.declared.standing.StageStatus.TheVariants.{Stored, Inlined}
use Rattle.grouping.proofs.ReadersMakeBoxes.{near_region}

-- ---- standings

-- each stage has a standing
pub standing_there : (standings : List StageStatus) (g n : ℕ) → length standings ≡ n → g < n
    → (s : StageStatus) × (slice_get standings g ≡ Some s)
standing_there [] g n all there = absurd (omega arith)
standing_there (s ∷ ss) g n all there =
    let low : g < length (s ∷ ss) = omega arith in
    (get_or (s ∷ ss) g s, slice_get-get_or (s ∷ ss) g s low)

-- the element of a map at a place
pub map_at : {X Y : Type 0} (f : X → Y) (xs : List X) (k : ℕ) (x : X) (d : Y) → slice_get xs k ≡ Some x
    → slice_index_or (map f xs) k d ≡ f x
map_at f xs k x d is = get_or_from_slice_get (map f xs) k (f x) d (slice_get-map f xs k ∙ ap (option_map f) is)

-- ---- what is kept of a tile

region_kept : (job : Pipeline) (c : Grouping) (h r place : ℕ) (a : Area) (s : StageStatus) → Stands job c r s → group c r ≡ h
    → nat_eq r h ≡ false → slice_get (areas_at job h) place ≡ Some a
    → find_kept_box (Some s) place ≡ region (target_over job c.inlining h a) r
region_kept job c h r place a (Stored n tiles) stands at other is =
    absurd (let own = stands.own in let same : r ≡ h = cc in grind (arith, nat_tests))
region_kept job c h r place a (Inlined tiles) stands at other is =
    let t : Target = target_over job c.inlining h a in
    let kept : boxes_in tiles ≡ boxes_by_tile job c.inlining h r = stands.boxes ∙ ap (λ k. boxes_by_tile job c.inlining k r) at in
    ap (λ xs. slice_index_or xs place None) kept
    ∙ map_at (λ b. box (target_over job c.inlining h b) r) (areas_at job h) place a None is
    ∙ sym (λ i. if other i then Some a else (if stands.inlined i then box t r else None))

-- the box that is kept of a reader is its region in the tile
pub kept_is_region : (job : Pipeline) (c : Grouping) (standings : List StageStatus) (h r place : ℕ) (a : Area) → AllStand job c standings
    → r < length job.stages → group c r ≡ h → nat_eq r h ≡ false
    → slice_get (areas_at job h) place ≡ Some a → find_kept_box (slice_get standings r) place ≡ region (target_over job c.inlining h a) r
kept_is_region job c standings h r place a stand there at other is =
    let found = standing_there standings r (length job.stages) stand.all there in
    ap (λ o. find_kept_box o place) found.1 ∙ region_kept job c h r place a found.0 (stand.each r found.0 found.1) at other is

pub kept_is_near : (t : Target) (g : ℕ) (o : Option Area) → IsJob t.job → IsTarget t → o ≡ region t g → IfSome o InDomainRanges
kept_is_near t g None job target is = tt
kept_is_near t g (Some a) job target is = near_region t g a job target (sym is)

scratch_kept : (job : Pipeline) (c : Grouping) (h place : ℕ) (a : Area) (s : StageStatus) → Stands job c h s → is_inlined c.inlining h ≡ false
    → slice_get (areas_at job h) place ≡ Some a
    → find_kept_scratch (Some s) place ≡ scratch (target_over job c.inlining h a)
scratch_kept job c h place a (Stored n tiles) stands stored is =
    ap (λ xs. slice_index_or xs place 0) stands.in_scratch
    ∙ map_at (λ b. scratch (target_over job c.inlining h b)) (areas_at job h) place a 0 is
scratch_kept job c h place a (Inlined tiles) stands stored is = absurd (let inlined = stands.inlined in cc)

-- the number that is kept of a stored stage's tile is what it has in scratch memory
pub kept_is_scratch : (job : Pipeline) (c : Grouping) (standings : List StageStatus) (h place : ℕ) (a : Area) → AllStand job c standings
    → h < length job.stages → is_inlined c.inlining h ≡ false
    → slice_get (areas_at job h) place ≡ Some a → find_kept_scratch (slice_get standings h) place ≡ scratch (target_over job c.inlining h a)
kept_is_scratch job c standings h place a stand there stored is =
    let found = standing_there standings h (length job.stages) stand.all there in
    ap (λ o. find_kept_scratch o place) found.1 ∙ scratch_kept job c h place a found.0 (stand.each h found.0 found.1) stored is

-- ---- groups

-- the first stage may be tested with the others
pub common_is : (c : Grouping) (rs : List ℕ) (r : ℕ) → slice_get rs 0 ≡ Some r
    → find_common_group c rs ≡ (if list_all (λ g. nat_eq (group c g) (group c r)) rs then Some (group c r) else None)
common_is c [] r first = absurd (cc)
common_is c (x ∷ xs) r first =
    let same : x ≡ r = cc in
    subst
    (λ (y : ℕ). find_common_group c (x ∷ xs) ≡ (if list_all (λ g. nat_eq (group c g) (group c y)) (x ∷ xs) then Some (group c y) else None))
    same
    (sym (ap (λ b. if b && list_all (λ g. nat_eq (group c g) (group c x)) xs then Some (group c x) else None)
    (eq-eqb (group c x) (group c x) refl)))
