-- The tiles that a target needs.
use Rattle.std.proofs.Common.{ℕ, ◌≡◌, ◌<◌, inl, inr, refl, sym, subst, ap, ◌∙◌, arith, Bool, true, false, ◌&&◌, not, List, []}
use Rattle.std.proofs.Common.{map, length, Option, Some, None}
use Rattle.std.specs.Prelude.{AllPairs, Contains, if◌then◌else◌}
use Rattle.std.specs.List.{flat_map, range_with_len}
use Rattle.std.proofs.lemmas.Bool.{cases_lt}
use Rattle.std.proofs.lemmas.Option.{slice_get_past, slice_get_within}
use Rattle.domains.specs.Tiles.{IsBefore, cover}
use Rattle.domains.specs.declared.area.Area.{Area}
use Rattle.domains.specs.declared.grid.Grid.{Grid}
use Rattle.domains.proofs.PairLists.{AllPairs-range, Contains-range}
use Rattle.domains.proofs.Covers.{cover_exact, cover_in_order}
use Rattle.job.specs.Answers.{Tile}
use Rattle.job.specs.Readers.{stage_grid, grid_at}
use Rattle.job.specs.WellFormed.{IsJob}
use Rattle.tile_boxes.specs.Schedules.{is_inlined}
use Rattle.tile_boxes.specs.Targets.{Target, is_function_other_than_target, box, boxes}
use Rattle.tile_boxes.proofs.BoxesLieInDomains.{box_inside}
use Rattle.tile_boxes.proofs.Lists.{flat_map-same, Contains-map, Contains-flat_map}
use Rattle.overlap_tiles.specs.inside.Made.{find_stage_area_in_boxes, stage_needs}
use Rattle.overlap_tiles.specs.Needs.{is_stored, tile_of_stage, tiles_over, needs_of, needs, IsNeeded, IsTileBefore}
use Rattle.overlap_tiles.proofs.Lists.{Contains-from_flat_map, Contains-from_map, AllPairs-flat_map, AllPairs-map}
use Rattle.tile_boxes.proofs.TilesAreTargets.{gridded, grid_fits}
use Rattle.overlap_tiles.proofs.BoxesAreFound.{find_stage_area_in_boxes-boxes}

-- ---- the list that the code makes

none_over : (g : ℕ) (grid : Option Grid) → tiles_over g grid None ≡ []
none_over g None = refl
none_over g (Some grid) = refl

chosen_needs : (g : ℕ) (grid : Option Grid) (o : Option Area) (inlined boxed : Bool)
    → (if inlined then [] else tiles_over g grid (if boxed then o else None)) ≡ (if boxed && not inlined then tiles_over g grid o else [])
chosen_needs g grid o true true = refl
chosen_needs g grid o true false = refl
chosen_needs g grid o false true = refl
chosen_needs g grid o false false = none_over g grid

past_needs : (g : ℕ) (one other : Option Area) (inlined stored : Bool)
    → (if inlined then [] else tiles_over g None one) ≡ (if stored then tiles_over g None other else [])
past_needs g one other true true = refl
past_needs g one other true false = refl
past_needs g one other false true = refl
past_needs g one other false false = refl

stage_needs_is : (t : Target) (g : ℕ) → stage_needs t.job t.inlining (boxes t) g ≡ needs_of t g
stage_needs_is t g = elim (cases_lt g (length t.job.stages)) [
  | inl there ↦
      ap (λ (o : Option Area). if is_inlined t.inlining g then [] else tiles_over g (grid_at t.job g) o) (find_stage_area_in_boxes-boxes t g there)
      ∙ chosen_needs g (grid_at t.job g) (box t g) (is_inlined t.inlining g) (is_function_other_than_target t g)
  | inr past ↦
      (let none : grid_at t.job g ≡ None = ap (stage_grid t.job) (slice_get_past t.job.stages g past) in
      ap (λ (o : Option Grid). if is_inlined t.inlining g then [] else tiles_over g o (find_stage_area_in_boxes (boxes t) g)) none
      ∙ past_needs g (find_stage_area_in_boxes (boxes t) g) (box t g) (is_inlined t.inlining g) (is_stored t g)
      ∙ sym (ap (λ (o : Option Grid). if is_stored t g then tiles_over g o (box t g) else []) none))
]

pub needs_made : (t : Target) → flat_map (stage_needs t.job t.inlining (boxes t)) (range_with_len 0 (length t.job.stages)) ≡ needs t
needs_made t =
    flat_map-same (stage_needs t.job t.inlining (boxes t)) (needs_of t) (range_with_len 0 (length t.job.stages)) (stage_needs_is t)

-- ---- what is in it

pub from_needs : (t : Target) (n : Tile) → IsJob t.job → Contains (needs t) n → IsNeeded t n
from_needs t n good h =
    let some = Contains-from_flat_map (needs_of t) (range_with_len 0 (length t.job.stages)) n h in
    by some.0 (is_stored t some.0) refl (grid_at t.job some.0) refl (box t some.0) refl some.2
  where
    by : (g : ℕ) (b : Bool) → is_stored t g ≡ b → (o : Option Grid) → grid_at t.job g ≡ o → (p : Option Area) → box t g ≡ p
        → Contains (if b then tiles_over g o p else []) n → IsNeeded t n
    by g false stored o there p boxed k = absurd (omega (arith, k.1))
    by g true stored None there p boxed k = absurd (omega (arith, k.1))
    by g true stored (Some grid) there None boxed k = absurd (omega (arith, k.1))
    by g true stored (Some grid) there (Some area) boxed k =
        let tile = Contains-from_map (tile_of_stage g) (cover grid area) n k in
        let fits = grid_fits t.job g grid good there in
        let at = gridded t.job g grid there in
        subst (IsNeeded t) tile.2 (record {
          grid = grid;
          there = there;
          stored = stored;
          area = area;
          boxed = boxed;
          meets =
              (cover_exact grid area fits.area (box_inside t g at.stage area good at.there boxed).0 fits.sides tile.0.0 tile.0.1).0 tile.1;
        })

pub to_needs : (t : Target) (n : Tile) → IsJob t.job → IsNeeded t n → Contains (needs t) n
to_needs t n good is =
    let fits = grid_fits t.job n.stage is.grid good is.there in
    let at = gridded t.job n.stage is.grid is.there in
    let there = slice_get_within t.job.stages n.stage at.stage at.there in
    let list : needs_of t n.stage ≡ map (tile_of_stage n.stage) (cover is.grid is.area) = λ i. if is.stored i then tiles_over n.stage
    (is.there i) (is.boxed i) else [] in
    Contains-flat_map (needs_of t) (range_with_len 0 (length t.job.stages)) n.stage n
    (Contains-range 0 (length t.job.stages) n.stage (omega arith) (omega arith))
    (subst (λ (ns : List Tile). Contains ns n) (sym list)
    (Contains-map (tile_of_stage n.stage) (cover is.grid is.area) (n.row, n.col)
    ((cover_exact is.grid is.area fits.area (box_inside t n.stage at.stage is.area good at.there is.boxed).0 fits.sides n.row n.col).1
    is.meets)))

-- ---- in order

stage_of_tile : (g : ℕ) (grid : Option Grid) (o : Option Area) (b : Bool) (n : Tile) → Contains (if b then tiles_over g grid o else []) n
    → n.stage ≡ g
stage_of_tile g grid o false n k = absurd (omega (arith, k.1))
stage_of_tile g None o true n k = absurd (omega (arith, k.1))
stage_of_tile g (Some grid) None true n k = absurd (omega (arith, k.1))
stage_of_tile g (Some grid) (Some a) true n k = sym (ap (λ (m : Tile). m.stage) (Contains-from_map (tile_of_stage g) (cover grid a) n k).2)

tiles_over_rise : (g : ℕ) (grid : Option Grid) (o : Option Area) (b : Bool) → AllPairs IsTileBefore (if b then tiles_over g grid o else [])
tiles_over_rise g grid o false = λ i j d p q. absurd (omega (arith, q))
tiles_over_rise g None o true = λ i j d p q. absurd (omega (arith, q))
tiles_over_rise g (Some grid) None true = λ i j d p q. absurd (omega (arith, q))
tiles_over_rise g (Some grid) (Some a) true =
    AllPairs-map IsBefore IsTileBefore (tile_of_stage g) (cover grid a) (cover_in_order grid a) (λ x y before. inr (refl, before))

pub needs_rise : (t : Target) → AllPairs IsTileBefore (needs t)
needs_rise t =
    AllPairs-flat_map ◌<◌ IsTileBefore (needs_of t) (range_with_len 0 (length t.job.stages)) (AllPairs-range 0 (length t.job.stages))
    (λ g. tiles_over_rise g (grid_at t.job g) (box t g) (is_stored t g))
    (λ g h less m n here there.
    let first = stage_of_tile g (grid_at t.job g) (box t g) (is_stored t g) m here in
    let second = stage_of_tile h (grid_at t.job h) (box t h) (is_stored t h) n there in
    inl (omega arith))
