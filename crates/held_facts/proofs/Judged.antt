-- What the search for the first tile that is not ready found.
use Rattle.std.proofs.Common.{arith, List, ℕ, ◌≡◌, ◌<◌, ◌≤◌, inl, inr, ap, sym, ◌∙◌, subst, true, None, Some}
use Rattle.std.specs.Prelude.{Contains}
use Rattle.std.proofs.lemmas.Option.{slice_get_within, none-some, same_Some}
use Rattle.domains.specs.Tiles.{tile_cols, tile_rows}
use Rattle.domains.specs.declared.grid.Grid.{Grid}
use Rattle.tile_boxes.proofs.TilesAreTargets.{gridded}
use Rattle.identity.specs.declared.key.Key.{Key}
use Rattle.job.specs.Answers.{Tile, is_result}
use Rattle.job.specs.Pipeline.{Pipeline}
use Rattle.job.specs.Readers.{grid_at}
use Rattle.overlap_tiles.specs.Needs.{IsKeyBefore, IsTileBefore}
use Rattle.overlap_tiles.specs.Work.{wanted_keys}
use Rattle.held_facts.specs.Answers.{IsNotHeld}
use Rattle.held_facts.specs.HeldAnswers.{IsReady, IsDisputed, IsMisshapen, AllAreReady, IsFirstUnready, IsAnswerFault}
use Rattle.held_facts.specs.Facts.{FactSet}
use Rattle.held_facts.specs.declared.answer_fault.AnswerFault.{AnswerFault}
use Rattle.held_facts.specs.declared.answer_fault.AnswerFault.TheVariants as fault
use Rattle.held_facts.specs.inside.Judging.{tile_key, IsFaultAt, RowIsReady, GridIsReady, StageIsReady, JobIsReady, JobHasFault}
use Rattle.held_facts.proofs.WantedTiles.{IsWantedTile, wanted_key, key_wanted, tile_before}

module _ (s : FactSet) (program : List ℕ) (job : Pipeline) where
  -- ---- a stage

  pub stage_ready : (g n : ℕ) (grid : Grid) → grid_at job g ≡ Some grid → tile_rows grid ≤ n
      → ((i : ℕ) → i < n → RowIsReady s program job g (tile_cols grid) i) → StageIsReady s program job g
  stage_ready g n grid there past rows other at =
      subst (λ (d : Grid). GridIsReady s program job g d) (same_Some grid other (sym there ∙ at)) (λ i low. rows i (omega arith))

  pub none_ready : (g : ℕ) → grid_at job g ≡ None → StageIsReady s program job g
  none_ready g none grid there = absurd (none-some grid (sym none ∙ there))

  -- of all that is ready the tiles of a stage are
  pub stage_of_all : (g : ℕ) → AllAreReady s program job → is_result job g ≡ true → StageIsReady s program job g
  stage_of_all g ready wanted grid there i row j col =
      ready (tile_key program job g i j)
      (key_wanted program job (record { stage = g; row = i; col = j })
      (record { wanted = wanted; grid = grid; there = there; tile = (row, col) }))

  -- ---- all are ready

  pub all_ready : JobIsReady s program job → AllAreReady s program job
  all_ready ready key has =
      let of = wanted_key program job key has in
      let w = of.wanted in
      let there = gridded job of.tile.stage w.grid w.there in
      subst (IsReady s job) of.is
      (ready of.tile.stage (slice_get_within job.stages of.tile.stage there.stage there.there) w.wanted w.grid w.there of.tile.row w.tile.0
      of.tile.col w.tile.1)

  -- ---- one is not

  module _ (found : AnswerFault) (first : JobHasFault s program job found) where
    abbrev stage : ℕ
    stage = first.at

    abbrev grid : Grid
    grid = first.bad.stage.grid

    abbrev row : ℕ
    row = first.bad.stage.first.at

    abbrev col : ℕ
    col = first.bad.stage.first.bad.at

    abbrev key : Key
    key = tile_key program job stage row col

    key_is_wanted : Contains (wanted_keys program job) key
    key_is_wanted = key_wanted program job (record { stage = stage; row = row; col = col }) (record {
      wanted = first.bad.wanted;
      grid = grid;
      there = first.bad.stage.there;
      tile = (first.bad.stage.first.within, first.bad.stage.first.bad.within);
    })

    same_grid : (g : ℕ) (other : Grid) → g ≡ stage → grid_at job g ≡ Some other → other ≡ grid
    same_grid g other same there = same_Some other grid (sym there ∙ ap (grid_at job) same ∙ first.bad.stage.there)

    by_place : (t : Tile) → IsWantedTile job t → IsTileBefore t (record { stage = stage; row = row; col = col })
        → IsReady s job (tile_key program job t.stage t.row t.col)
    by_place t w (inl low) = first.before t.stage low w.wanted w.grid w.there t.row w.tile.0 t.col w.tile.1
    by_place t w (inr (same, inl low)) =
        let in_row = subst (λ (d : Grid). t.col < tile_cols d) (same_grid t.stage w.grid same w.there) w.tile.1 in
        subst (λ g. IsReady s job (tile_key program job g t.row t.col)) (sym same) (first.bad.stage.first.before t.row low t.col in_row)
    by_place t w (inr (same, inr (same_row, low))) =
        subst (λ g. IsReady s job (tile_key program job g t.row t.col)) (sym same)
        (subst (λ i. IsReady s job (tile_key program job stage i t.col)) (sym same_row) (first.bad.stage.first.bad.before t.col low))

    below : (other : Key) → Contains (wanted_keys program job) other → IsKeyBefore other key → IsReady s job other
    below other has before =
        let of = wanted_key program job other has in
        subst (IsReady s job) of.is
        (by_place of.tile of.wanted (tile_before program job of.tile (record { stage = stage; row = row; col = col })
        (subst (λ k. IsKeyBefore k key) (sym of.is) before)))

    is_first : IsFirstUnready s program job key
    is_first = record { wanted = key_is_wanted; below = below }

    at_key : (f : AnswerFault) → IsFaultAt s job key f → IsAnswerFault s program job f
    at_key (fault.Missing k) is =
        (subst (IsFirstUnready s program job) (sym is.0) is_first, subst (IsNotHeld s) (sym is.0) is.1)
    at_key (fault.Disputed k) is =
        (subst (IsFirstUnready s program job) (sym is.0) is_first, subst (IsDisputed s) (sym is.0) is.1)
    at_key (fault.Misshapen k) is =
        (subst (IsFirstUnready s program job) (sym is.0) is_first, subst (IsMisshapen s job) (sym is.0) is.1)
    at_key fault.Memory is = absurd is
    at_key fault.Retired is = absurd is

    pub first_fault : IsAnswerFault s program job found
    first_fault = at_key found first.bad.stage.first.bad.bad
