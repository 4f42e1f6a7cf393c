-- What the tiles of a stage need is given: where all tiles of the stored functions are, or those of lower ranks.
use Rattle.std.proofs.Common.{ℕ, arith, ◌≡◌, Bool, false, not, eqb, Option, Some, List, ap, sym, ◌∙◌, subst}
use Rattle.std.specs.Prelude.{Contains, slice_get}
use Rattle.std.specs.Option.{option_map_or}
use Rattle.std.proofs.lemmas.Bool.{and_parts, not-true}
use Rattle.domains.specs.Tiles.{HasTile}
use Rattle.domains.specs.declared.area.Area.{Area}
use Rattle.domains.specs.declared.grid.Grid.{Grid}
use Rattle.job.specs.Answers.{Tile}
use Rattle.job.specs.Pipeline.{Stage, Pipeline}
use Rattle.job.specs.WellFormed.{IsJob}
use Rattle.job.proofs.Solving.{ranked_is}
use Rattle.job.proofs.Unrolling.{rank_is}
use Rattle.tile_boxes.specs.Schedules.{is_inlined, is_function_stage, is_function_body}
use Rattle.tile_boxes.specs.Targets.{Target, is_function_other_than_target, box, target_over}
use Rattle.tile_boxes.proofs.TilesAreTargets.{gridded}
use Rattle.overlap_tiles.specs.Needs.{IsNeeded}
use Rattle.overlap_tiles.proofs.BoxesAreLower.{box_low}
use Rattle.overlap_tiles.proofs.NeedsAreExact.{from_needs}
use Rattle.tile_sources.specs.KnownTiles.{KnownTiles}
use Rattle.tile_run.specs.StageRuns.{GivesNeedsOf}
use Rattle.tile_run.specs.Stored.{IsStoredFunction, GivesTilesOf, GivesAllTiles}
use Rattle.tile_run.specs.inside.Running.{GivesBelow}

module _ (job : Pipeline) (inlining : List Bool) (given : KnownTiles) (g : ℕ) (good : IsJob job) where
  -- the stored functions that have a box in the target are given
  given_boxes : ((region area : Area) (h : ℕ) (s : Stage) → IsStoredFunction job inlining h s
      → box (target_over job inlining g region) h ≡ Some area → GivesTilesOf job given h s) → GivesNeedsOf job inlining given g
  given_boxes tiles i j l is n k =
      let t : Target = target_over job inlining g is.area in
      let needed : IsNeeded t n = from_needs t n good (subst (λ (ns : List Tile). Contains ns n) is.layout.layout.needs k) in
      let at = gridded job n.stage needed.grid needed.there in
      let both = and_parts (is_function_other_than_target t n.stage) (not (is_inlined inlining n.stage)) needed.stored in
      let boxed = and_parts (is_function_stage job n.stage) (not (eqb n.stage g)) both.0 in
      let stored : IsStoredFunction job inlining n.stage at.stage = record {
        there = at.there;
        function = sym (ap (λ (o : Option Stage). option_map_or (λ s. is_function_body s.body) o false) at.there) ∙ boxed.0;
        stored = not-true (is_inlined inlining n.stage) both.1;
      } in (
        _,
        tiles is.area needed.area n.stage at.stage stored needed.boxed n.row n.col
            (subst (λ (d : Grid). HasTile d n.row n.col) (sym at.is) needed.meets.there),
      )

  pub needs_all : GivesAllTiles job inlining given → GivesNeedsOf job inlining given g
  needs_all all = given_boxes (λ region area h s stored boxed. all h s stored)

  -- all that has a box in a target is of a lower rank
  pub needs_below : (s : Stage) → slice_get job.stages g ≡ Some s → GivesBelow job inlining s.rank given → GivesNeedsOf job inlining given g
  needs_below s there below = given_boxes (λ region area h p stored boxed.
      let low = box_low (target_over job inlining g region) (ranked_is job good) h area boxed in
      let own = rank_is job.stages g s there in
      let other = rank_is job.stages h p stored.there in
      below h p stored (omega arith))
