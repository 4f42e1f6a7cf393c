-- Which tiles lack room in scratch memory.
use Rattle.std.proofs.Common.{arith, ℕ, ◌<◌, ◌≤◌, ◌≡◌, ◌⊎◌, inl, inr, refl, ap, sym, ◌∙◌, Bool, true, false, not, ◌&&◌, Option}
use Rattle.std.proofs.Common.{Some, None, List}
use Rattle.std.specs.Prelude.{◌↔◌, nat_le, nat_lt}
use Rattle.std.specs.Option.{option_map_or}
use Rattle.std.proofs.lemmas.Bool.{cases_lt, false≢true, ltb-true, lt-ltb, le-ltb, lt-leb, le-leb}
use Rattle.domains.specs.Tiles.{HasTile, tile_rows, tile_cols, tile_area}
use Rattle.domains.specs.declared.area.Area.{Area}
use Rattle.domains.specs.declared.grid.Grid.{Grid}
use Rattle.job.specs.Answers.{Tile}
use Rattle.job.specs.Pipeline.{Pipeline}
use Rattle.job.specs.Readers.{grid_at}
use Rattle.tile_boxes.specs.Costs.{scratch, most_scratch}
use Rattle.tile_boxes.specs.Targets.{target_over}
use Rattle.overlap_tiles.specs.Plans.{IsPlanFault}
use Rattle.overlap_tiles.specs.declared.fault.PlanFault.TheVariants.{ScratchTooBig}
use Rattle.overlap_tiles.specs.Work.{has_tile, lacks_room_in, is_tile_over_scratch_limit}

-- more than so many are not at most so many
pub more_is : (n m : ℕ) → nat_lt m n ≡ not (nat_le n m)
more_is n m = elim (cases_lt m n) [
  | inl more ↦ lt-ltb m n more ∙ sym (ap not (lt-leb n m more))
  | inr most ↦ le-ltb m n most ∙ sym (ap not (le-leb n m most))
]

pub tile_is : (grid : Grid) (t : Tile) → HasTile grid t.row t.col → has_tile grid t ≡ true
tile_is grid t is =
    ap (λ b. b && nat_lt t.col (tile_cols grid)) (lt-ltb t.row (tile_rows grid) is.0) ∙ lt-ltb t.col (tile_cols grid) is.1

past_is : (grid : Grid) (t : Tile) → (HasTile grid t.row t.col → ⊥) → has_tile grid t ≡ false
past_is grid t past = by (cases_lt t.row (tile_rows grid)) (cases_lt t.col (tile_cols grid))
  where
    by : (t.row < tile_rows grid) ⊎ (tile_rows grid ≤ t.row) → (t.col < tile_cols grid) ⊎ (tile_cols grid ≤ t.col)
        → has_tile grid t ≡ false
    by (inl row) (inl col) = absurd (past (row, col))
    by (inl row) (inr col) =
        ap (λ b. b && nat_lt t.col (tile_cols grid)) (lt-ltb t.row (tile_rows grid) row) ∙ le-ltb t.col (tile_cols grid) col
    by (inr row) other = ap (λ b. b && nat_lt t.col (tile_cols grid)) (le-ltb t.row (tile_rows grid) row)

module _ (job : Pipeline) (inlining : List Bool) (t : Tile) where
  by_grid : (o : Option Grid) → grid_at job t.stage ≡ o → is_tile_over_scratch_limit job inlining t ≡ option_map_or (lacks_room_in job inlining t) o false
  by_grid o there = ap (λ (x : Option Grid). option_map_or (lacks_room_in job inlining t) x false) there

  -- no stage has tiles there
  pub none_lacks : grid_at job t.stage ≡ None → is_tile_over_scratch_limit job inlining t ≡ false
  none_lacks there = by_grid None there

  -- its grid has no such tile
  pub past_lacks : (grid : Grid) → grid_at job t.stage ≡ Some grid → (HasTile grid t.row t.col → ⊥) → is_tile_over_scratch_limit job inlining t ≡ false
  past_lacks grid there past =
      by_grid (Some grid) there
      ∙ ap (λ b. b && not (nat_le (scratch (target_over job inlining t.stage (tile_area grid t.row t.col))) most_scratch))
      (past_is grid t past)

  -- the tile is there, with this area
  pub tile_lacks : (grid : Grid) (area : Area) → grid_at job t.stage ≡ Some grid → HasTile grid t.row t.col
      → area ≡ tile_area grid t.row t.col
      → is_tile_over_scratch_limit job inlining t ≡ nat_lt most_scratch (scratch (target_over job inlining t.stage area))
  tile_lacks grid area there tile is =
      by_grid (Some grid) there
      ∙ ap (λ b. b && not (nat_le (scratch (target_over job inlining t.stage (tile_area grid t.row t.col))) most_scratch))
      (tile_is grid t tile)
      ∙ sym (more_is (scratch (target_over job inlining t.stage (tile_area grid t.row t.col))) most_scratch)
      ∙ ap (λ (a : Area). nat_lt most_scratch (scratch (target_over job inlining t.stage a))) (sym is)

  from_bool : is_tile_over_scratch_limit job inlining t ≡ true → (o : Option Grid) → grid_at job t.stage ≡ o
      → IsPlanFault job inlining t.stage t.row t.col ScratchTooBig
  from_bool is None there = absurd (false≢true (sym (none_lacks there) ∙ is))
  from_bool is (Some grid) there = by (cases_lt t.row (tile_rows grid)) (cases_lt t.col (tile_cols grid))
    where
      past : (HasTile grid t.row t.col → ⊥) → IsPlanFault job inlining t.stage t.row t.col ScratchTooBig
      past h = absurd (false≢true (sym (past_lacks grid there h) ∙ is))

      by : (t.row < tile_rows grid) ⊎ (tile_rows grid ≤ t.row) → (t.col < tile_cols grid) ⊎ (tile_cols grid ≤ t.col)
          → IsPlanFault job inlining t.stage t.row t.col ScratchTooBig
      by (inl row) (inl col) =
          let area = tile_area grid t.row t.col in
          record {
            area = area;
            tile = record { grid = grid; there = there; tile = (row, col); is = refl };
            reason = ltb-true most_scratch (scratch (target_over job inlining t.stage area))
                (sym (tile_lacks grid area there (row, col) refl) ∙ is);
          }
      by (inl row) (inr col) = past (λ h. let low = h.1 in omega arith)
      by (inr row) other = past (λ h. let low = h.0 in omega arith)

  pub room_is : (is_tile_over_scratch_limit job inlining t ≡ true) ↔ IsPlanFault job inlining t.stage t.row t.col ScratchTooBig
  room_is = (
    (λ is. from_bool is (grid_at job t.stage) refl),
    (λ h. tile_lacks h.tile.grid h.area h.tile.there h.tile.tile h.tile.is
        ∙ lt-ltb most_scratch (scratch (target_over job inlining t.stage h.area)) h.reason),
  )
