-- Accumulators among the stages, and the tiles of one that come in.
use Rattle.std.proofs.Common.{ℕ, ◌≡◌, refl, sym, ap, ◌∙◌, true, false, Option, Some, None, [], ◌∷◌, length}
use Rattle.std.specs.Prelude.{slice_get, fold, if◌then◌else◌}
use Rattle.std.specs.Option.{option_map_or}
use Rattle.std.proofs.lemmas.List.{length-map}
use Rattle.std.proofs.lemmas.List.Sorted.{IsPermutation-refl}
use Rattle.std.proofs.lemmas.Option.{none-some, same_Some}
use Rattle.domains.proofs.Spans.{length-numbers_from}
use Rattle.domains.specs.Span.{Ends, len_of, numbers_of}
use Rattle.domains.specs.Tiles.{tiles_of}
use Rattle.domains.specs.declared.grid.Grid.{Grid}
use Rattle.operators.specs.declared.operator.ReductionOp.{ReductionOp}
use Rattle.job.specs.Answers.{grid_of, has_tiles, is_accumulator}
use Rattle.job.specs.Pipeline.{Body, plane, function, accumulator, Pipeline, Stage}
use Rattle.job.specs.Readers.{fold_of, bins_of, stage_fold, stage_bins, stage_grid, grid_at}
use Rattle.job.specs.Totals.{totals}
use Rattle.job.specs.WellFormed.{IsJob}
use Rattle.tile_run.specs.Work.{is_accumulator_at}
use Rattle.accumulators.specs.Answers.{body_gathered, gathered_at}
use Rattle.reductions.specs.Bins.{starts}
use Rattle.accumulators.specs.inside.Making.{IsGathered, with_tile}
use Rattle.partials.specs.Partials.{body_joined, joined_over}
use Rattle.partials.proofs.PartialsJoin.{partials_join_to_answer_in_any_order}

module _ (job : Pipeline) (g : ℕ) where
  -- ---- what lacks an operation, bins or tiles gathers nothing

  pub no_fold : stage_fold (slice_get job.stages g) ≡ None → gathered_at job g ≡ []
  no_fold e = by (slice_get job.stages g) e
    where
      by_body : (b : Body) → fold_of b ≡ None → body_gathered job g b ≡ []
      by_body (plane n) e = refl
      by_body (function cases otherwise) e = refl
      by_body (accumulator way bins v b) e = absurd (none-some way (sym e))

      by : (o : Option Stage) → stage_fold o ≡ None → option_map_or (λ s. body_gathered job g s.body) o [] ≡ []
      by None e = refl
      by (Some s) e = by_body s.body e

  pub no_bins : stage_bins (slice_get job.stages g) ≡ None → gathered_at job g ≡ []
  no_bins e = by (slice_get job.stages g) e
    where
      by_body : (b : Body) → bins_of b ≡ None → body_gathered job g b ≡ []
      by_body (plane n) e = refl
      by_body (function cases otherwise) e = refl
      by_body (accumulator way bins v b) e = absurd (none-some bins (sym e))

      by : (o : Option Stage) → stage_bins o ≡ None → option_map_or (λ s. body_gathered job g s.body) o [] ≡ []
      by None e = refl
      by (Some s) e = by_body s.body e

  pub no_grid : grid_at job g ≡ None → gathered_at job g ≡ []
  no_grid e = by (slice_get job.stages g) e
    where
      by_body : (s : Stage) (b : Body) → (if has_tiles b then Some (grid_of job s) else None) ≡ None → body_gathered job g b ≡ []
      by_body s (plane n) e = refl
      by_body s (function cases otherwise) e = refl
      by_body s (accumulator way bins v b) e = absurd (none-some (grid_of job s) (sym e))

      by : (o : Option Stage) → stage_grid job o ≡ None → option_map_or (λ s. body_gathered job g s.body) o [] ≡ []
      by None e = refl
      by (Some s) e = by_body s s.body e

  -- what has them is an accumulator
  pub is_gathered : (way : ReductionOp) (bins : Ends) (grid : Grid) → stage_fold (slice_get job.stages g) ≡ Some way
      → stage_bins (slice_get job.stages g) ≡ Some bins → grid_at job g ≡ Some grid → IsGathered job g way bins grid
  is_gathered way bins grid = by (slice_get job.stages g) refl
    where
      by_body : (s : Stage) (b : Body) → slice_get job.stages g ≡ Some s → s.body ≡ b → fold_of b ≡ Some way → bins_of b ≡ Some bins
          → (if has_tiles b then Some (grid_of job s) else None) ≡ Some grid → IsGathered job g way bins grid
      by_body s (plane n) there is e f h = absurd (none-some way e)
      by_body s (function cases otherwise) there is e f h = absurd (none-some way e)
      by_body s (accumulator w l v b) there is e f h = record {
        stage = s;
        there = there;
        value = v;
        bin = b;
        body = is ∙ (λ i. accumulator (same_Some w way e i) (same_Some l bins f i) v b);
        parted = sym (same_Some (grid_of job s) grid h);
      }

      by : (o : Option Stage) → slice_get job.stages g ≡ o → stage_fold o ≡ Some way → stage_bins o ≡ Some bins
          → stage_grid job o ≡ Some grid → IsGathered job g way bins grid
      by None there e f h = absurd (none-some way e)
      by (Some s) there e f h = by_body s s.body there refl e f h

module _ (job : Pipeline) (g : ℕ) (way : ReductionOp) (bins : Ends) (grid : Grid) (is : IsGathered job g way bins grid) where
  -- ---- by its parts

  pub grid_there : grid_at job g ≡ Some grid
  grid_there = ap (stage_grid job) is.there ∙ (λ i. if has_tiles (is.body i) then Some (grid_of job is.stage) else None)
      ∙ ap (λ (d : Grid). Some d) (sym is.parted)

  pub is_wanted : is_accumulator_at job g ≡ true
  is_wanted = ap (λ (o : Option Stage). option_map_or (λ s. is_accumulator s.body) o false) is.there ∙ ap is_accumulator is.body

  pub gathers : gathered_at job g ≡ record { stage = g; lo = bins.lo; bins = totals job g } ∷ []
  gathers = ap (λ (o : Option Stage). option_map_or (λ s. body_gathered job g s.body) o []) is.there ∙ ap (body_gathered job g) is.body

  -- all tiles that came in give the totals
  pub all_joined : IsJob job → fold (with_tile job g way grid) (starts way bins) (tiles_of grid) ≡ totals job g
  all_joined good =
      let joined : joined_over job g grid (tiles_of grid) ≡ fold (with_tile job g way grid) (starts way bins) (tiles_of grid) =
      ap (λ (o : Option Stage). option_map_or (λ s. body_joined job g grid (tiles_of grid) s.body) o []) is.there
      ∙ ap (body_joined job g grid (tiles_of grid)) is.body in
      sym joined
      ∙ ap (λ (d : Grid). joined_over job g d (tiles_of d)) is.parted
      ∙ partials_join_to_answer_in_any_order job g is.stage (tiles_of (grid_of job is.stage)) good is.there (IsPermutation-refl (tiles_of (grid_of job is.stage)))

pub length-starts : (way : ReductionOp) (bins : Ends) → length (starts way bins) ≡ len_of bins
length-starts way bins = length-map (numbers_of bins) _ ∙ length-numbers_from bins.lo (len_of bins)
