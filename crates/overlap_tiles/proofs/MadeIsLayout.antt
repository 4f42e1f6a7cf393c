-- What is put together is a layout, and with keys a plan.
use Rattle.std.proofs.Common.{ℕ, ◌≡◌, ◌+◌, ◌<◌, arith, refl, sym, subst, ap, ◌∙◌, List, [], ◌∷◌, ◌++◌, map, length, Bool}
use Rattle.std.specs.Prelude.{All, Contains, filter}
use Rattle.std.specs.List.{flat_map, range_with_len, sum}
use Rattle.std.proofs.lemmas.List.{map_push}
use Rattle.std.proofs.lemmas.List.Sums.{sum_by_push}
use Rattle.std.proofs.lemmas.Option.{slice_get_within}
use Rattle.domains.specs.Area.{point_count}
use Rattle.domains.specs.declared.area.Area.{Area}
use Rattle.job.specs.Pipeline.{Pipeline}
use Rattle.job.specs.Answers.{Tile}
use Rattle.job.specs.WellFormed.{IsJob}
use Rattle.tile_boxes.specs.Schedules.{is_inlined}
use Rattle.tile_boxes.specs.Targets.{Target, boxes, target_over}
use Rattle.tile_boxes.specs.Costs.{points_in, inner_steps}
use Rattle.overlap_tiles.specs.inside.Made.{stage_needs, list_last_reader_places_by_stage, ranges_by, ranges_for, size_of}
use Rattle.overlap_tiles.specs.declared.needs.NeededTile.{NeededTile}
use Rattle.overlap_tiles.specs.Needs.{needs, key_of, key_tile}
use Rattle.overlap_tiles.specs.Plans.{TileLayout, IsLayout, IsTileLayout, Plan, IsTilePlan, layout_of}
use Rattle.overlap_tiles.specs.Ranges.{HaveRoom}
use Rattle.overlap_tiles.specs.Views.{need_view}
use Rattle.overlap_tiles.proofs.Lists.{All-from_contains}
use Rattle.overlap_tiles.proofs.RangesHaveRoom.{have_room}
use Rattle.overlap_tiles.proofs.NeedsAreExact.{needs_made, from_needs}
use Rattle.tile_boxes.proofs.TilesAreTargets.{gridded}
use Rattle.tile_boxes.proofs.Lists.{Contains-map}

-- one more step
points_in-push : (inner : List (ℕ × Area)) (s : ℕ × Area) → points_in (inner ++ s ∷ []) ≡ points_in inner + point_count s.1
points_in-push inner s =
    ap sum (map_push (λ (x : ℕ × Area). point_count x.1) inner s)
    ∙ sum_by_push (λ n. n) (map (λ x. point_count x.1) inner) (point_count s.1)

-- how a layout is put together
pub record IsMade (t : Target) (p : TileLayout) : Type 0 where
  pub inner : List (ℕ × Area)
  pub kept : inner ≡ filter (λ s. is_inlined t.inlining s.0) (boxes t)
  pub needs : p.needs ≡ flat_map (stage_needs t.job t.inlining (boxes t)) (range_with_len 0 (length t.job.stages))
  pub steps : p.steps ≡ inner ++ (t.stage, t.region) ∷ []
  pub points : p.points ≡ points_in inner + point_count t.region
  pub ranges : p.ranges ≡ ranges_by (list_last_reader_places_by_stage t.job (inner ++ (t.stage, t.region) ∷ [])) inner
  pub scratch : p.scratch ≡ size_of p.ranges
  pub inlining : p.inlining ≡ t.inlining

pub is_layout : (t : Target) (p : TileLayout) → IsMade t p → IsLayout t p
is_layout t p made =
    let kept : made.inner ≡ inner_steps t = made.kept in
    let ranges : p.ranges ≡ ranges_for t = made.ranges
    ∙ ap (λ (ss : List (ℕ × Area)). ranges_by (list_last_reader_places_by_stage t.job (ss ++ (t.stage, t.region) ∷ [])) ss) kept in
    let size : p.scratch ≡ size_of (ranges_for t) = made.scratch ∙ ap size_of ranges in
    record {
      needs = made.needs ∙ needs_made t;
      steps = made.steps ∙ ap (λ (ss : List (ℕ × Area)). ss ++ (t.stage, t.region) ∷ []) kept;
      points = made.points ∙ ap (λ (ss : List (ℕ × Area)). points_in ss + point_count t.region) kept
          ∙ sym (points_in-push (inner_steps t) (t.stage, t.region));
      ranges = subst (λ (n : ℕ). HaveRoom t p.ranges n) (sym size)
          (subst (λ (rs : List (ℕ × ℕ)). HaveRoom t rs (size_of (ranges_for t))) (sym ranges) (have_room t));
      inlining = made.inlining;
    }

-- ---- with keys and without

-- the tile of a tile's key is the tile
pub tiles_back : (program : List ℕ) (job : Pipeline) (ns : List Tile) → map key_tile (map (key_of program job) ns) ≡ ns
tiles_back program job [] = refl
tiles_back program job (n ∷ ns) = ap (λ (ms : List Tile). n ∷ ms) (tiles_back program job ns)

-- the layout of a plan of a tile is that of the tile
pub layout_in : (program : List ℕ) (job : Pipeline) (inlining : List Bool) (g i j : ℕ) (p : Plan) → IsTilePlan program job inlining g i j p
    → IsTileLayout job inlining g i j (layout_of p)
layout_in program job inlining g i j p is =
    let made = is.plan.plan in
    record {
      area = is.area;
      tile = is.tile;
      layout = record {
        layout =
            record {
              needs =
                  ap (map key_tile) made.needs ∙ tiles_back program job (needs (target_over job inlining g is.area));
              steps =
                  made.steps;
              points = made.points;
              ranges = made.ranges;
              inlining = made.inlining;
            };
        fits = is.plan.fits;
      };
    }

-- the numbers of stages have 16 bits
pub numbers_fit : (t : Target) (ns : List NeededTile) → IsJob t.job → map need_view ns ≡ needs t → All (λ n. n.stage < 65536) ns
numbers_fit t ns good same = All-from_contains (λ n. n.stage < 65536) ns (λ n h.
    let is = from_needs t (need_view n) good (subst (λ (ms : List Tile). Contains ms (need_view n)) same (Contains-map need_view ns n h)) in
    let at = gridded t.job n.stage is.grid is.there in
    let few = good.few_stages in
    let within = slice_get_within t.job.stages n.stage at.stage at.there in
    omega arith)
