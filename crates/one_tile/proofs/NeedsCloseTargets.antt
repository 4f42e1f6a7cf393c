-- All that a target reads is at hand where the tiles that it needs are given.
use Rattle.std.proofs.Common.{ℕ, arith, ◌≡◌, ℤ, Bool, true, false, not, eqb, Option, Some, None, List, refl, sym, ap, ◌∙◌, subst}
use Rattle.std.specs.Prelude.{All, slice_get, if◌then◌else◌}
use Rattle.std.specs.Option.{option_map_or}
use Rattle.std.proofs.lemmas.Bool.{and_from, ne_eqb, eq-eqb}
use Rattle.domains.specs.Area.{HoldsPoint}
use Rattle.domains.specs.Tiles.{tile_at}
use Rattle.domains.specs.declared.area.Area.{Area}
use Rattle.domains.specs.declared.grid.Grid.{Grid}
use Rattle.domains.proofs.Covers.{tile_is}
use Rattle.job.specs.Formula.{Formula}
use Rattle.job.specs.Pipeline.{JobCase, Body, plane, function, accumulator, Stage, rank_of}
use Rattle.job.specs.Reads.{Read, point, window, reads_in, EachTaken, EachRead, CaseReads, BodyReads}
use Rattle.job.specs.Answers.{Tile, grid_of, has_tiles}
use Rattle.job.specs.Readers.{stage_grid, grid_at}
use Rattle.job.specs.Values.{value}
use Rattle.job.specs.WellFormed.{IsValued, IsReadable, IsJob}
use Rattle.job.proofs.Steps.{All-both}
use Rattle.job.proofs.Solving.{ranked_is}
use Rattle.tile_boxes.specs.Schedules.{is_inlined, is_function_stage, is_function_body}
use Rattle.tile_boxes.specs.Targets.{Target, IsTarget, is_function_other_than_target, box, region, IsInBox}
use Rattle.tile_boxes.proofs.BoxesHoldWhatIsRead.{has_what_it_reads}
use Rattle.tile_boxes.proofs.BoxesLieInDomains.{region_in_domain}
use Rattle.overlap_tiles.specs.Needs.{IsNeeded}
use Rattle.overlap_tiles.proofs.BoxesAreLower.{box_low}
use Rattle.tile_boxes.proofs.TilesAreTargets.{grid_fits}
use Rattle.tile_eval.specs.Raster.{raster}
use Rattle.tile_eval.proofs.Rasters.{raster_same}
use Rattle.tile_sources.specs.KnownTiles.{KnownTiles, AreTrue, IsGivenAt}
use Rattle.one_tile.specs.Local.{local_value, FunctionAtHand, BodyAtHand, StageAtHand, IsAtHand, IsProvided}
use Rattle.one_tile.proofs.LocalValuesUnroll.{reads_weaker, local_is_value}

-- ---- two facts of all that is read

abbrev pub Both : (ℕ → ℤ → ℤ → Type 0) → (ℕ → ℤ → ℤ → Type 0) → ℕ → ℤ → ℤ → Type 0
Both P Q g r c = P g r c × Q g r c

module _ (P Q : ℕ → ℤ → ℤ → Type 0) (r c : ℤ) where
  both_taken : (x : Read) → EachTaken P x r c → EachTaken Q x r c → EachTaken (Both P Q) x r c
  both_taken (point g i j) p q = (p, q)
  both_taken (window g kernel) p q = λ a b la lb. (p a b la lb, q a b la lb)

  both_read : (f : Formula) → EachRead P f r c → EachRead Q f r c → EachRead (Both P Q) f r c
  both_read f p q = All-both (λ x. EachTaken P x r c) (λ x. EachTaken Q x r c) (λ x. EachTaken (Both P Q) x r c) both_taken (reads_in f) p q

  both_cases : (ps : List JobCase) → All (λ p. CaseReads P p r c) ps → All (λ p. CaseReads Q p r c) ps
      → All (λ p. CaseReads (Both P Q) p r c) ps
  both_cases ps p q =
      All-both (λ p. CaseReads P p r c) (λ p. CaseReads Q p r c) (λ p. CaseReads (Both P Q) p r c)
      (λ case one other. λ b there inside. both_read case.formula (one b there inside) (other b there inside)) ps p q

  both_body : (body : Body) → BodyReads P body r c → BodyReads Q body r c → BodyReads (Both P Q) body r c
  both_body (plane n) p q = tt
  both_body (function cases otherwise) p q = (both_cases cases p.0 q.0, (λ f there. both_read f (p.1 f there) (q.1 f there)))
  both_body (accumulator fold bins value bin) p q = (both_read value p.0 q.0, both_read bin p.1 q.1)

-- ---- what is in a target

-- the point lies in the region of a stage in the target
pub record IsInTarget (t : Target) (g : ℕ) (r c : ℤ) : Type 0 where
  pub stage : Stage
  pub there : slice_get t.job.stages g ≡ Some stage
  pub area : Area
  pub is : region t g ≡ Some area
  pub holds : HoldsPoint area r c

module _ (t : Target) (job : IsJob t.job) (target : IsTarget t) (given : KnownTiles) (gives : (n : Tile) → IsNeeded t n
    → (xs : List ℤ) × (given n.stage n.row n.col ≡ Some xs)) where
  module _ (h : ℕ) (r c : ℤ) (boxed : IsInBox t h r c) (x : IsReadable t.job.stages h r c) where
    other : eqb h t.stage ≡ false
    other =
        let lower = box_low t (ranked_is t.job job) h boxed.area boxed.there in
        ne_eqb h t.stage (λ same. let ranks = ap (rank_of t.job.stages) same in omega arith)

    of_inlined : is_inlined t.inlining h ≡ true → IsInTarget t h r c
    of_inlined flag = record {
      stage = x.stage;
      there = x.there;
      area = boxed.area;
      is = (λ i. if other i then Some t.region else (if flag i then box t h else None)) ∙ boxed.there;
      holds = boxed.holds;
    }

    of_stored : is_function_body x.stage.body ≡ true → has_tiles x.stage.body ≡ true → is_inlined t.inlining h ≡ false
        → IsGivenAt given h (grid_of t.job x.stage) r c
    of_stored e has stored =
        let grid : Grid = grid_of t.job x.stage in
        let at : grid_at t.job h ≡ Some grid = ap (stage_grid t.job) x.there ∙ (λ i. if has i then Some grid else None) in
        let tile = tile_is grid r c (grid_fits t.job h grid job at) x.within in
        let one = and_from (is_function_stage t.job h) (not (eqb h t.stage))
        (ap (λ (o : Option Stage). option_map_or (λ s. is_function_body s.body) o false) x.there ∙ e) (ap not other) in (
          x.within,
          gives (record { stage = h; row = (tile_at grid r c).0; col = (tile_at grid r c).1 }) (record {
            grid = grid;
            there = at;
            stored = and_from (is_function_other_than_target t h) (not (is_inlined t.inlining h)) one (ap not stored);
            area = boxed.area;
            boxed = boxed.there;
            meets = record { there = tile.there; row = r; col = c; in_tile = tile.holds; in_area = boxed.holds };
          }),
        )

    by_body : (body : Body) → x.stage.body ≡ body → (i : Bool) → is_inlined t.inlining h ≡ i
        → BodyAtHand t.job t.inlining given (IsInTarget t) h x.stage body r c
    by_body (plane n) e i flag = x.within
    by_body (function cases otherwise) e true flag =
        subst (λ (b : Bool). FunctionAtHand b (IsInTarget t h r c) (IsGivenAt given h (grid_of t.job x.stage) r c)) (sym flag)
        (of_inlined flag)
    by_body (function cases otherwise) e false flag =
        subst (λ (b : Bool). FunctionAtHand b (IsInTarget t h r c) (IsGivenAt given h (grid_of t.job x.stage) r c)) (sym flag)
        (of_stored (ap is_function_body e) (ap has_tiles e) flag)
    by_body (accumulator fold bins value bin) e i flag = absurd (subst IsValued e x.valued)

    of_read : IsAtHand t.job t.inlining given (IsInTarget t) h r c
    of_read = subst (λ (o : Option Stage). StageAtHand t.job t.inlining given (IsInTarget t) h o r c) (sym x.there)
        (by_body x.stage.body refl (is_inlined t.inlining h) refl)

  pub closed : (g : ℕ) (r c : ℤ) → IsInTarget t g r c → IsProvided t.job t.inlining given (IsInTarget t) g r c
  closed g r c p =
      let inside = (region_in_domain t g p.stage p.area job target p.there p.is).1 r c p.holds in
      record {
        stage = p.stage;
        there = p.there;
        inside = inside;
        reads = reads_weaker (Both (IsInBox t) (IsReadable t.job.stages)) (IsAtHand t.job t.inlining given (IsInTarget t))
            (λ h i j both. of_read h i j both.0 both.1) p.stage.body r c
            (both_body (IsInBox t) (IsReadable t.job.stages) r c p.stage.body
            (has_what_it_reads t job target g p.stage p.area p.there p.is r c p.holds)
            ((job.stages g p.stage p.there).reads r c inside));
      }

  -- where what is given is true, the local values over the region are the values
  pub values_over : AreTrue t.job given → raster t.region (local_value t.job t.inlining given t.stage)
      ≡ raster t.region (value t.job t.stage)
  values_over true_tiles = raster_same t.region (local_value t.job t.inlining given t.stage) (value t.job t.stage) (λ r c holds.
      local_is_value t.job job t.inlining given true_tiles (IsInTarget t) closed t.stage r c (record {
        stage = target.owner;
        there = target.there;
        area = t.region;
        is = λ i. if eq-eqb t.stage t.stage refl i then Some t.region else (if is_inlined t.inlining t.stage then box t t.stage else None);
        holds = holds;
      }))
