-- What is available for a tile before it is computed.
use Rattle.std.specs.Prelude.{ℕ, suc, ℤ, ◌+◌, ◌-◌, ◌<◌, ◌≤◌, ◌≡◌, ◌⊎◌, Bool, Some, List, length, slice_get}
use Rattle.domains.specs.Area.{HoldsPoint, point_count}
use Rattle.domains.specs.declared.area.Area.{Area}
use Rattle.job.specs.Pipeline.{Pipeline}
use Rattle.job.specs.Values.{Valuation}
use Rattle.overlap_tiles.specs.Plans.{TileLayout, IsTileAt}
use Rattle.tile_eval.specs.Raster.{place_of}
use Rattle.tile_eval.specs.Rows.{at}
use Rattle.one_tile.specs.declared.scratch_view.TileScratchView.{TileScratchView}
use Rattle.tile_sources.specs.KnownTiles.{KnownTiles}
use Rattle.one_tile.specs.Local.{read_from, local_value, IsAtHand, IsProvided}

-- ---- scratch memory of which two parts are borrowed: what lies before a range, and what lies from its end on

-- `len` places from a start on are borrowed
abbrev pub IsLent : TileScratchView → ℕ → ℕ → Type 0
IsLent boxes start len =
    (start + len ≤ length boxes.before.now) ⊎ ((boxes.end ≤ start) × (start + len ≤ boxes.end + length boxes.behind.now))

-- the number at a place, if it is borrowed
abbrev pub IsNumberAt : TileScratchView → ℕ → ℤ → Type 0
IsNumberAt boxes n number =
    (n < length boxes.before.now → at boxes.before.now n ≡ number) × (boxes.end ≤ n → at boxes.behind.now (n - boxes.end) ≡ number)

-- the numbers of an area, which are stored from a start on, are borrowed, and this is the one at the point
pub record HasNumber (boxes : TileScratchView) (area : Area) (start : ℕ) (r c number : ℤ) : Type 0 where
  pub within : HoldsPoint area r c
  pub lent : IsLent boxes start (point_count area)
  pub is : IsNumberAt boxes (start + place_of area r c) number

-- ---- boxes of inlined functions

-- the step at place k is no target, and computes stage g over this area
abbrev pub IsInnerStep : TileLayout → ℕ → ℕ → Area → Type 0
IsInnerStep l k g area = (suc k < length l.steps) × (slice_get l.steps k ≡ Some (g, area))

-- in the range of the step at place k this is the number at the point
abbrev pub HasBox : TileLayout → TileScratchView → ℕ → Area → ℤ → ℤ → ℤ → Type 0
HasBox l boxes k area r c number = (range : ℕ × ℕ) × (slice_get l.ranges k ≡ Some range) × HasNumber boxes area range.0 r c number

-- stage g is inlined in the layout, and its box has its local value at the point
pub record IsBoxed (job : Pipeline) (l : TileLayout) (given : KnownTiles) (boxes : TileScratchView) (g : ℕ) (r c : ℤ) : Type 0 where
  pub some : (k : ℕ) × (area : Area) × IsInnerStep l k g area
  pub each : (k : ℕ) (area : Area) → IsInnerStep l k g area → HasBox l boxes k area r c (local_value job l.inlining given g r c)

-- ---- what a tile reads

-- of a plane the sample, of a stored function the supplied number, of an inlined function its local value
abbrev pub input_at : Pipeline → List Bool → KnownTiles → Valuation
input_at job inlining given = read_from job inlining given (local_value job inlining given)

-- whether it is available
abbrev pub IsInputAt : Pipeline → TileLayout → KnownTiles → TileScratchView → ℕ → ℤ → ℤ → Type 0
IsInputAt job l given boxes = IsAtHand job l.inlining given (IsBoxed job l given boxes)

-- all that stage g reads at the points of an area, which lie in its domain, is available
abbrev pub IsPrepared : Pipeline → TileLayout → KnownTiles → TileScratchView → ℕ → Area → Type 0
IsPrepared job l given boxes g area =
    (r c : ℤ) → HoldsPoint area r c → IsProvided job l.inlining given (IsBoxed job l given boxes) g r c

-- that holds of the tile in row i and column j
abbrev pub IsPreparedOn : Pipeline → TileLayout → KnownTiles → TileScratchView → ℕ → ℕ → ℕ → Type 0
IsPreparedOn job l given boxes g i j = (area : Area) → IsTileAt job g i j area → IsPrepared job l given boxes g area
