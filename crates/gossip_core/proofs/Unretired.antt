-- A state that holds all wanted tiles of a job with a result has not retired the job: the job has such a tile.
use Rattle.std.proofs.Common.{arith, ℕ, ◌*◌, ◌<◌, ◌≤◌, ◌≡◌, ◌||◌, refl, sym, ap, ◌∙◌, subst, Bool, true, false, Option, Some, None}
use Rattle.std.proofs.Common.{List, [], ◌∷◌}
use Rattle.std.specs.Prelude.{if◌then◌else◌, slice_get}
use Rattle.std.specs.List.{Contains}
use Rattle.std.specs.Option.{option_map_or}
use Rattle.std.proofs.lemmas.Bool.{false≢true}
use Rattle.std.proofs.lemmas.Int.{ints}
use Rattle.domains.proofs.Lengths.{len_is}
use Rattle.domains.proofs.PairLists.{Contains-here}
use Rattle.domains.proofs.PartsOfSpans.{starts_in}
use Rattle.domains.specs.Span.{Ends, IsSpan, len_of}
use Rattle.domains.specs.Tiles.{HasTile, part_count}
use Rattle.tile_boxes.specs.Schedules.{is_function_body}
use Rattle.job.specs.Answers.{Tile, grid_of, has_tiles, is_accumulator, is_accumulator_at, is_output, is_result}
use Rattle.job.specs.Pipeline.{Body, plane, function, accumulator, Pipeline, Stage}
use Rattle.job.specs.Readers.{stage_grid}
use Rattle.job.specs.WellFormed.{IsJob, IsStage}
use Rattle.identity.specs.declared.job_ids.JobId.{JobId}
use Rattle.identity.specs.declared.key.Key.{Key}
use Rattle.catalog.specs.Entries.{Entry, ids_in, ids_of}
use Rattle.fact_store.proofs.KeyLaws.{in_facts_of}
use Rattle.held_facts.proofs.WantedTiles.{IsWantedTile, key_wanted}
use Rattle.held_facts.specs.Answers.{AreHeld}
use Rattle.held_facts.specs.Facts.{facts_of}
use Rattle.overlap_tiles.specs.Needs.{key_of}
use Rattle.node_state.specs.States.{IsState, State, retires}
use Rattle.tile_fact.specs.declared.fact.Fact.{Fact}
use Rattle.gossip_core.specs.Headline.{HasResult, wanted}
use Rattle.gossip_core.proofs.FinishWanted.{output_is_function}

-- ---- a stage of the result has a first tile

record IsTiled (job : Pipeline) (g : ℕ) : Type 0 where
  stage : Stage
  there : slice_get job.stages g ≡ Some stage
  tiles : has_tiles stage.body ≡ true

function_tiles : (b : Body) → is_function_body b ≡ true → has_tiles b ≡ true
function_tiles (plane n) is = absurd (false≢true is)
function_tiles (function cases otherwise) is = refl
function_tiles (accumulator fold bins value bin) is = refl

accumulator_tiles : (b : Body) → is_accumulator b ≡ true → has_tiles b ≡ true
accumulator_tiles (plane n) is = absurd (false≢true is)
accumulator_tiles (function cases otherwise) is = refl
accumulator_tiles (accumulator fold bins value bin) is = refl

tiled_by : (Q : Body → Bool) (job : Pipeline) (g : ℕ) → ((b : Body) → Q b ≡ true → has_tiles b ≡ true)
    → option_map_or (λ (s : Stage). Q s.body) (slice_get job.stages g) false ≡ true → IsTiled job g
tiled_by Q job g tiles = by (slice_get job.stages g) refl
  where
    by : (o : Option Stage) → slice_get job.stages g ≡ o → option_map_or (λ (s : Stage). Q s.body) o false ≡ true → IsTiled job g
    by None there is = absurd (false≢true is)
    by (Some s) there is = record { stage = s; there = there; tiles = tiles s.body is }

result_tiled : (job : Pipeline) (g : ℕ) → IsJob job → is_result job g ≡ true → IsTiled job g
result_tiled job g good = by (is_output job g) refl
  where
    by : (b : Bool) → is_output job g ≡ b → (b || is_accumulator_at job g) ≡ true → IsTiled job g
    by true out one = tiled_by is_function_body job g function_tiles (output_is_function job g good out)
    by false out one = tiled_by is_accumulator job g accumulator_tiles one

some_part : (s : Ends) (side : ℕ) → IsSpan s → 1 ≤ side → 0 < part_count s side
some_part s side is least =
    let none : 0 * side ≡ 0 = omega arith in
    let low = is.ordered in
    starts_in (len_of s) side 0 least (omega (arith, ints, none, len_is s is, low))

first_tile : (job : Pipeline) (g : ℕ) (s : Stage) → IsJob job → slice_get job.stages g ≡ Some s → HasTile (grid_of job s) 0 0
first_tile job g s good there =
    let stage : IsStage job s = good.stages g s there in (
      some_part s.domain.rows job.sides.height stage.rows.span good.sides.height_least,
      some_part s.domain.cols job.sides.width stage.cols.span good.sides.width_least,
    )

abbrev first_of : ℕ → Tile
first_of g = record { stage = g; row = 0; col = 0 }

first_wanted : (job : Pipeline) (g : ℕ) → IsJob job → is_result job g ≡ true → IsWantedTile job (first_of g)
first_wanted job g good is =
    let of = result_tiled job g good is in
    record {
      wanted = is;
      grid = grid_of job of.stage;
      there = ap (stage_grid job) of.there ∙ ap (λ b. if b then Some (grid_of job of.stage) else None) of.tiles;
      tile = first_tile job g of.stage good of.there;
    }

-- ---- so a fact of the job is held

pub not_retired : (entry : Entry) (s : State) → IsJob entry.pipeline → HasResult entry.pipeline → IsState s
    → AreHeld s.facts (wanted entry) → retires s (ids_of entry) ≡ false
not_retired entry s good (g, is) live all = by (facts_of s.facts key) refl
  where
    key : Key
    key = key_of (ids_of entry).program entry.pipeline (first_of g)

    by : (fs : List Fact) → facts_of s.facts key ≡ fs → retires s (ids_of entry) ≡ false
    by [] none =
        absurd (all key (key_wanted (ids_of entry).program entry.pipeline (first_of g) (first_wanted entry.pipeline g good is)) none)
    by (f ∷ fs) some =
        let has = (in_facts_of s.facts key f).0 (subst (λ (gs : List Fact). Contains gs f) (sym some) (Contains-here f fs)) in
        let own : ids_in f.key ≡ ids_of entry = ap ids_in has.1 in
        subst (λ (i : JobId). retires s i ≡ false) own (live f has.0)
