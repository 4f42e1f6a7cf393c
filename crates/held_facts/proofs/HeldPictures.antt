-- Where all wanted keys are ready, all tiles of the outputs are held.
use Rattle.std.proofs.Common.{ℕ, ℤ, ◌≡◌, ◌||◌, refl, sym, ap, ◌∙◌, Bool, true, false, Option, Some, None, List, length}
use Rattle.std.specs.Prelude.{slice_get, slice_index, if◌then◌else◌}
use Rattle.std.specs.Option.{option_and_then}
use Rattle.std.proofs.lemmas.List.Elements.{All-contains}
use Rattle.std.proofs.lemmas.Option.{same_Some}
use Rattle.pictures.specs.Pictures.{IsLentStage, GivesOutputs}
use Rattle.pictures.proofs.PictureOfAnswer.{is_among}
use Rattle.domains.specs.Area.{point_count}
use Rattle.domains.specs.Tiles.{HasTile, tile_area}
use Rattle.domains.specs.declared.grid.Grid.{Grid}
use Rattle.identity.specs.declared.key.Key.{Key}
use Rattle.job.specs.Answers.{grid_of, has_tiles, height_of, is_output, is_result, width_of}
use Rattle.job.specs.Pipeline.{Body, plane, function, accumulator, Pipeline, Stage}
use Rattle.job.specs.Readers.{stage_grid, grid_at}
use Rattle.job.specs.WellFormed.{IsFunction, IsJob, IsOutput, IsOutputPlane}
use Rattle.overlap_tiles.proofs.Lists.{All-from_contains}
use Rattle.overlap_tiles.specs.Work.{is_accumulator_at}
use Rattle.tile_fact.specs.declared.fact.Fact.{Fact}
use Rattle.held_facts.specs.HeldAnswers.{AllAreReady, IsReady, held_tiles, samples_in}
use Rattle.held_facts.specs.Facts.{FactSet, facts_of}
use Rattle.held_facts.specs.inside.Judging.{tile_key}
use Rattle.held_facts.proofs.OneHeld.{first_alone, fits_key, function_fits}
use Rattle.held_facts.proofs.WantedTiles.{key_wanted}

tiled : (body : Body) → IsFunction body → has_tiles body ≡ true
tiled (plane n) f = absurd f
tiled (function cases otherwise) f = refl
tiled (accumulator way bins value bin) f = refl

pub grid_there : (job : Pipeline) (g : ℕ) (s : Stage) → slice_get job.stages g ≡ Some s → has_tiles s.body ≡ true
    → grid_at job g ≡ Some (grid_of job s)
grid_there job g s there has =
    ap (stage_grid job) there ∙ ap (λ b. if b then Some (grid_of job s) else None) has

either : (a b : Bool) → a ≡ true → (a || b) ≡ true
either true b e = refl
either false b e = cc

pub output_wanted : (job : Pipeline) (g : ℕ) → is_output job g ≡ true → is_result job g ≡ true
output_wanted job g is = either (is_output job g) (is_accumulator_at job g) is

module _ (s : FactSet) (program : List ℕ) (job : Pipeline) where
  abbrev first_samples : Key → Option (List ℤ)
  first_samples key = option_and_then (λ (fact : Fact). samples_in fact.body) (slice_get (facts_of s key) 0)

  -- the numbers of a tile of a stage that has tiles
  pub held_is : (g i j : ℕ) (grid : Grid) → grid_at job g ≡ Some grid
      → held_tiles s program job g i j ≡ first_samples (tile_key program job g i j)
  held_is g i j grid there = ap (λ o. option_and_then (λ (d : Grid). first_samples (tile_key program job g i j)) o) there

  module _ (ready : AllAreReady s program job) where
    tile_ready : (g : ℕ) (stage : Stage) (i j : ℕ) → slice_get job.stages g ≡ Some stage → has_tiles stage.body ≡ true
        → is_result job g ≡ true → HasTile (grid_of job stage) i j → IsReady s job (tile_key program job g i j)
    tile_ready g stage i j there has wanted tile =
        ready (tile_key program job g i j) (key_wanted program job (record { stage = g; row = i; col = j }) (record {
          wanted = wanted;
          grid = grid_of job stage;
          there = grid_there job g stage there has;
          tile = tile;
        }))

    -- the numbers of a function's tile, one for each of its points
    pub record IsHeldTile (g i j : ℕ) (stage : Stage) : Type 0 where
      pub numbers : List ℤ
      pub held : held_tiles s program job g i j ≡ Some numbers
      pub count : length numbers ≡ point_count (tile_area (grid_of job stage) i j)

    tile_held : (g : ℕ) (stage : Stage) (i j : ℕ) → slice_get job.stages g ≡ Some stage → IsFunction stage.body → is_result job g ≡ true
        → HasTile (grid_of job stage) i j → IsHeldTile g i j stage
    tile_held g stage i j there is_function_stage wanted tile =
        let key = tile_key program job g i j in
        let is = tile_ready g stage i j there (tiled stage.body is_function_stage) wanted tile in
        let fits = function_fits job key stage is.fact.body there is_function_stage (fits_key s job key is) in
        let shape = fits.2 in
        let same = same_Some shape.tile.stage stage (sym shape.tile.tile.there ∙ there) in
        record {
          numbers = fits.0;
          held =
              held_is g i j (grid_of job stage) (grid_there job g stage there (tiled stage.body is_function_stage))
              ∙ ap (λ o. option_and_then (λ (f : Fact). samples_in f.body) o) (first_alone s key is.fact is.alone)
              ∙ fits.1;
          count =
              shape.count ∙ ap point_count (shape.tile.tile.is ∙ ap (λ (x : Stage). tile_area (grid_of job x) i j) same);
        }

    stage_lent : (g : ℕ) (stage : Stage) → slice_get job.stages g ≡ Some stage → IsFunction stage.body → is_result job g ≡ true
        → IsLentStage job (held_tiles s program job) g
    stage_lent g stage there is_function_stage wanted = (
      stage,
      record {
        there = there;
        all = λ i j tile. (let held = tile_held g stage i j there is_function_stage wanted tile in (held.numbers, held.held));
        whole = λ i j xs tile given.
            let held = tile_held g stage i j there is_function_stage wanted tile in
            ap length (same_Some xs held.numbers (sym given ∙ held.held)) ∙ held.count;
      },
    )

    pub outputs_held : IsJob job → GivesOutputs job (held_tiles s program job)
    outputs_held good o there =
        let is : IsOutput job o = good.output o there in
        All-from_contains (IsLentStage job (held_tiles s program job)) o.stages (λ g has.
        let own = All-contains (IsOutputPlane job (height_of job (slice_index o.stages 0)) (width_of job (slice_index o.stages 0)))
        o.stages g is.equal_sides has in
        stage_lent g own.stage own.there own.function (output_wanted job g (is_among job o g there has)))
