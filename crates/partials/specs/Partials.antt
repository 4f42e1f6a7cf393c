-- What an accumulator accumulates over a tile from the supplied numbers, and how that is joined.
use Rattle.std.specs.Prelude.{ℕ, ℤ, ◌≡◌, Bool, true, List, [], fold, slice_get}
use Rattle.std.specs.Option.{option_map_or}
use Rattle.domains.specs.Tiles.{tile_area}
use Rattle.domains.specs.declared.area.Area.{Area}
use Rattle.domains.specs.declared.grid.Grid.{Grid}
use Rattle.operators.specs.declared.operator.ReductionOp.{ReductionOp}
use Rattle.job.specs.Pipeline.{Body, plane, function, accumulator, Pipeline}
use Rattle.job.specs.Totals.{body_totals, totals_over}
use Rattle.overlap_tiles.specs.Plans.{Plan, IsTileAt, IsTilePlan}
use Rattle.tile_sources.specs.KnownTiles.{KnownTiles}
use Rattle.one_tile.specs.Local.{read_from, local_value}
use Rattle.job.specs.Answers.{is_accumulator_at}
use Rattle.reductions.specs.Bins.{starts, joined_bins}

-- ---- over a tile

-- the totals of accumulator g over an area: reads of stored functions take the supplied numbers, and reads of inlined functions
-- their local values
abbrev pub local_totals : Pipeline → List Bool → KnownTiles → Area → ℕ → List ℤ
local_totals job inlining given area g =
    option_map_or (λ s. body_totals (read_from job inlining given (local_value job inlining given)) area s.body) (slice_get job.stages g) []

-- the numbers are those of the tile in row i and column j
abbrev pub AreLocalTotals : Pipeline → List Bool → KnownTiles → ℕ → ℕ → ℕ → List ℤ → Type 0
AreLocalTotals job inlining given g i j bins = (area : Area) → IsTileAt job g i j area → bins ≡ local_totals job inlining given area g

-- bins are joined with what accumulator g accumulates over its tile in row i and column j
abbrev pub TookLocalTotals : Pipeline → List Bool → KnownTiles → ℕ → ℕ → ℕ → ReductionOp → List ℤ → List ℤ → Type 0
TookLocalTotals job inlining given g i j way old new =
    (area : Area) → IsTileAt job g i j area → new ≡ joined_bins way old (local_totals job inlining given area g)

-- the numbers are the totals of the job there
abbrev pub AreTotalsOn : Pipeline → ℕ → ℕ → ℕ → List ℤ → Type 0
AreTotalsOn job g i j bins = (area : Area) → IsTileAt job g i j area → bins ≡ totals_over job area g

-- the plan is that of a tile of an accumulator
pub record IsAccumulatorPlan (program : List ℕ) (job : Pipeline) (p : Plan) : Type 0 where
  pub inlining : List Bool
  pub stage : ℕ
  pub row : ℕ
  pub col : ℕ
  pub plan : IsTilePlan program job inlining stage row col p
  pub accumulator : is_accumulator_at job stage ≡ true

-- ---- joined

-- what the bins of a stage start from, joined with the totals over some tiles one after the other
abbrev pub body_joined : Pipeline → ℕ → Grid → List (ℕ × ℕ) → Body → List ℤ
body_joined job g grid tiles (accumulator way bins value bin) =
    fold (λ xs t. joined_bins way xs (totals_over job (tile_area grid t.0 t.1) g)) (starts way bins) tiles
body_joined job g grid tiles (plane n) = []
body_joined job g grid tiles (function cases otherwise) = []

abbrev pub joined_over : Pipeline → ℕ → Grid → List (ℕ × ℕ) → List ℤ
joined_over job g grid tiles = option_map_or (λ s. body_joined job g grid tiles s.body) (slice_get job.stages g) []
