-- The body of a tile: its kind, its size, and that it is true where what is given is.
use Rattle.std.proofs.Common.{arith, ℕ, ℤ, ◌≡◌, ◌+◌, ◌*◌, ◌<◌, ◌≤◌, Bool, true, false, List, [], Option, Some, None, length, refl}
use Rattle.std.proofs.Common.{sym, ap, ◌∙◌, subst}
use Rattle.std.specs.Option.{option_map, option_map_or}
use Rattle.std.specs.Prelude.{slice_get}
use Rattle.std.proofs.Math.Nat.{mul-le-mul_left, mul-le-mul_right}
use Rattle.std.proofs.lemmas.Int.{ints, clamps}
use Rattle.std.proofs.lemmas.List.{length-map}
use Rattle.std.proofs.lemmas.Bool.{false≢true}
use Rattle.partials.specs.Partials.{local_totals, AreTotalsOn}
use Rattle.reductions.specs.TruePartials.{IsTruePartial}
use Rattle.domains.proofs.Lengths.{len_is}
use Rattle.domains.proofs.PartsOfSpans.{part_fits}
use Rattle.domains.proofs.Spans.{length-numbers_from}
use Rattle.domains.specs.Area.{point_count}
use Rattle.domains.specs.Span.{Ends, IsSpan, len_of, numbers_of}
use Rattle.domains.specs.Tiles.{IsGrid, HasTile, tile_area, part_of, part_count}
use Rattle.domains.specs.declared.area.Area.{Area}
use Rattle.domains.specs.declared.grid.Grid.{Grid}
use Rattle.tile_boxes.proofs.TilesAreTargets.{gridded, grid_fits}
use Rattle.tile_boxes.specs.Schedules.{is_function_stage, is_function_body}
use Rattle.tile_boxes.specs.Targets.{target_over}
use Rattle.job.specs.Answers.{is_accumulator, grid_of, has_tiles}
use Rattle.job.specs.Pipeline.{Body, plane, function, accumulator, Stage, Pipeline}
use Rattle.job.specs.Readers.{body_kind, kind_of}
use Rattle.job.specs.Totals.{body_totals}
use Rattle.job.specs.Values.{Valuation}
use Rattle.job.specs.WellFormed.{IsFunction, IsBody, IsJob}
use Rattle.job.specs.declared.job.StageKind.TheVariants as kind
use Rattle.netpbm.specs.Image.{Image}
use Rattle.overlap_tiles.specs.Plans.{IsTileAt}
use Rattle.tile_eval.proofs.Rasters.{raster_len}
use Rattle.tile_eval.specs.Raster.{IsTileOver, IsTrueTile}
use Rattle.tile_fact.specs.Bodies.{IsWithin}
use Rattle.tile_fact.specs.declared.body.Body as facts
use Rattle.tile_fact.specs.declared.body.Body.TheVariants.{Tile, Partial}
use Rattle.tile_sources.specs.KnownTiles.{KnownTiles}
use Rattle.one_tile.specs.Local.{read_from, local_value}
use Rattle.one_tile.specs.Runs.{AreValuesOn}
use Rattle.tile_run.specs.Work.{is_accumulator_at}
use Rattle.held_facts.specs.Making.{IsLocalBody}

-- ---- kinds of stages

a_function : (o : Option Stage) → option_map kind_of o ≡ Some kind.Function → option_map_or (λ s. is_function_body s.body) o false ≡ true
a_function None e = absurd (cc)
a_function (Some s) e = by s.body e
  where
    by : (b : Body) → Some (body_kind b) ≡ Some kind.Function → is_function_body b ≡ true
    by (plane n) e = absurd (cc)
    by (function cases otherwise) e = refl
    by (accumulator way bins value bin) e = absurd (cc)

an_accumulator : (o : Option Stage) → option_map kind_of o ≡ Some kind.Accumulator
    → option_map_or (λ s. is_accumulator s.body) o false ≡ true
an_accumulator None e = absurd (cc)
an_accumulator (Some s) e = by s.body e
  where
    by : (b : Body) → Some (body_kind b) ≡ Some kind.Accumulator → is_accumulator b ≡ true
    by (plane n) e = absurd (cc)
    by (function cases otherwise) e = absurd (cc)
    by (accumulator way bins value bin) e = refl

module _ (job : Pipeline) (g : ℕ) where
  pub function_kind : option_map kind_of (slice_get job.stages g) ≡ Some kind.Function → is_function_stage job g ≡ true
  function_kind e = a_function (slice_get job.stages g) e

  pub accumulator_kind : option_map kind_of (slice_get job.stages g) ≡ Some kind.Accumulator → is_accumulator_at job g ≡ true
  accumulator_kind e = an_accumulator (slice_get job.stages g) e

  module _ (i j : ℕ) (area : Area) (at : IsTileAt job g i j area) where
    -- a stage with tiles is a function or an accumulator
    pub no_plane : option_map kind_of (slice_get job.stages g) ≡ Some kind.Plane → ⊥
    no_plane e =
        let own = gridded job g at.grid at.there in
        by own.stage.body own.tiles (sym (ap (option_map kind_of) own.there) ∙ e)
      where
        by : (b : Body) → has_tiles b ≡ true → Some (body_kind b) ≡ Some kind.Plane → ⊥
        by (plane n) has e = false≢true has
        by (function cases otherwise) has e = cc
        by (accumulator way bins value bin) has e = cc

    pub no_stage : option_map kind_of (slice_get job.stages g) ≡ None → ⊥
    no_stage e = let own = gridded job g at.grid at.there in cc (ap (option_map kind_of) own.there)

    tile_over : (s : Stage) → slice_get job.stages g ≡ Some s → grid_of job s ≡ at.grid → IsTileOver job g i j s area
    tile_over s there same = record {
      there = there;
      tile = subst (λ (d : Grid). HasTile d i j) (sym same) at.tile;
      is = at.is ∙ ap (λ (d : Grid). tile_area d i j) (sym same);
    }

    -- ---- true bodies

    pub true_tile : is_function_stage job g ≡ true → (xs : List ℤ) → AreValuesOn job g i j xs → IsTrueTile job g i j xs
    true_tile function' xs values =
        let own = gridded job g at.grid at.there in
        record {
          area = area;
          tile = record {
            stage = own.stage;
            tile = tile_over own.stage own.there own.is;
            function = by own.stage.body
                (sym (ap (λ (o : Option Stage). option_map_or (λ s. is_function_body s.body) o false) own.there) ∙ function');
          };
          values = values area at;
        }
      where
        by : (b : Body) → is_function_body b ≡ true → IsFunction b
        by (plane n) e = false≢true e
        by (function cases otherwise) e = tt
        by (accumulator way bins value bin) e = false≢true e

    pub true_partial : is_accumulator_at job g ≡ true → (xs : List ℤ) → AreTotalsOn job g i j xs → IsTruePartial job g i j xs
    true_partial accumulator' xs totals =
        let own = gridded job g at.grid at.there in
        record {
          area = area;
          tile = record {
            stage = own.stage;
            tile = tile_over own.stage own.there own.is;
            accumulator =
                sym (ap (λ (o : Option Stage). option_map_or (λ s. is_accumulator s.body) o false) own.there) ∙ accumulator';
          };
          totals = totals area at;
        }

-- ---- sizes

part_small : (s : Ends) (side i : ℕ) → IsSpan s → 1 ≤ side → i < part_count s side → len_of (part_of s side i) ≤ side
part_small s side i h p k =
    let len = len_is (part_of s side i) (part_fits s side i h p k) in
    let next : (i + 1) * side ≡ i * side + side = omega arith in
    omega (arith, ints, clamps, len)

product_small : (m n a b : ℕ) → m ≤ a → n ≤ b → a ≤ 1024 → b ≤ 1024 → m * n ≤ 1048576
product_small m n a b low low' high high' =
    let short : m ≤ 1024 = omega (arith, low, high) in
    let short' : n ≤ 1024 = omega (arith, low', high') in
    omega (arith, mul-le-mul_right n short, mul-le-mul_left 1024 short')

tile_small : (grid : Grid) (i j : ℕ) → IsGrid grid → HasTile grid i j → point_count (tile_area grid i j) ≤ 1048576
tile_small grid i j good tile =
    product_small _ _ grid.sides.height grid.sides.width
    (part_small grid.area.rows grid.sides.height i good.area.rows good.sides.height_least tile.0)
    (part_small grid.area.cols grid.sides.width j good.area.cols good.sides.width_least tile.1) good.sides.height_most good.sides.width_most

few_bins : (picture : Image) (domain area : Area) (env : Valuation) (b : Body) → IsBody picture domain b
    → length (body_totals env area b) ≤ 4096
few_bins picture domain area env (plane n) h = omega arith
few_bins picture domain area env (function cases otherwise) h = omega arith
few_bins picture domain area env (accumulator way bins value bin) h =
    let few = h.1 in
    let long : length (body_totals env area (accumulator way bins value bin)) ≡ len_of bins =
    length-map (numbers_of bins) _ ∙ length-numbers_from bins.lo (len_of bins) in
    omega (arith, few, long)

few_totals : (job : Pipeline) (inlining : List Bool) (given : KnownTiles) (area : Area) (g : ℕ) → IsJob job
    → length (local_totals job inlining given area g) ≤ 4096
few_totals job inlining given area g good = by (slice_get job.stages g) refl
  where
    by : (o : Option Stage) → slice_get job.stages g ≡ o
        → length (option_map_or (λ s. body_totals (read_from job inlining given (local_value job inlining given)) area s.body) o [])
        ≤ 4096
    by None there = omega arith
    by (Some s) there =
        few_bins job.picture s.domain area (read_from job inlining given (local_value job inlining given)) s.body
        (good.stages g s there).body

pub body_within : (job : Pipeline) (inlining : List Bool) (g i j : ℕ) (area : Area) → IsJob job → IsTileAt job g i j area
    → (given : KnownTiles) (b : facts.Body)
    → IsLocalBody (target_over job inlining g area) given b → IsWithin b
body_within job inlining g i j area good at given (Tile xs) h =
    let long : length xs ≡ point_count area = ap length h.1 ∙ raster_len area (local_value job inlining given g) in
    let small : point_count area ≤ 1048576 = subst (λ (a : Area). point_count a ≤ 1048576) (sym at.is)
    (tile_small at.grid i j (grid_fits job g at.grid good at.there) at.tile) in
    omega (arith, long, small)
body_within job inlining g i j area good at given (Partial xs) h =
    let few = few_totals job inlining given area g good in
    let long = ap length h.1 in
    omega (arith, few, long)
