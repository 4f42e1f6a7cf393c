-- Partials that come in one after the other.
use Rattle.std.proofs.Common.{ℕ, ℤ, ◌≡◌, refl, sym, ap, ◌∙◌, Option, Some, List, [], ◌∷◌, map}
use Rattle.std.specs.Prelude.{IsPermutation, slice_get, fold}
use Rattle.std.specs.Option.{option_map_or}
use Rattle.domains.specs.Tiles.{tile_area, tiles_of}
use Rattle.job.specs.Answers.{grid_of}
use Rattle.job.specs.Pipeline.{Body, plane, function, accumulator, Pipeline, Stage}
use Rattle.job.specs.Totals.{totals, totals_over}
use Rattle.job.specs.WellFormed.{IsJob}
use Rattle.accumulators.specs.Answers.{body_gathered, gathered_at}
use Rattle.reductions.specs.Bins.{starts, joined_bins}
use Rattle.accumulators.specs.Gatherings.{body_gathered_from, gathered_from}
use Rattle.partials.specs.Partials.{body_joined}
use Rattle.partials.proofs.PartialsJoin.{partials_join_to_answer_in_any_order}

fold_map : {X Y T : Type 0} (op : X → Y → X) (f : T → Y) (x : X) (ts : List T) → fold op x (map f ts) ≡ fold (λ y t. op y (f t)) x ts
fold_map op f x [] = refl
fold_map op f x (t ∷ ts) = fold_map op f (op x (f t)) ts

-- true partials, each once and in any order, give what an accumulator gathers
pub taken_partials : (job : Pipeline) (g : ℕ) (s : Stage) (tiles : List (ℕ × ℕ)) → IsJob job → slice_get job.stages g ≡ Some s
    → IsPermutation (tiles_of (grid_of job s)) tiles
    → gathered_from job g (map (λ t. totals_over job (tile_area (grid_of job s) t.0 t.1) g) tiles) ≡ gathered_at job g
taken_partials job g s tiles good there same =
    ap (λ (o : Option Stage). option_map_or (λ t. body_gathered_from g (map partial tiles) t.body) o []) there
    ∙ by_body s.body refl
    ∙ sym (ap (λ (o : Option Stage). option_map_or (λ t. body_gathered job g t.body) o []) there)
  where
    partial : ℕ × ℕ → List ℤ
    partial t = totals_over job (tile_area (grid_of job s) t.0 t.1) g

    by_body : (b : Body) → s.body ≡ b → body_gathered_from g (map partial tiles) b ≡ body_gathered job g b
    by_body (plane n) is = refl
    by_body (function cases otherwise) is = refl
    by_body (accumulator way bins v b) is =
        let joined : fold (λ xs t. joined_bins way xs (partial t)) (starts way bins) tiles ≡ totals job g =
        sym (ap (λ (o : Option Stage). option_map_or (λ t. body_joined job g (grid_of job s) tiles t.body) o []) there
        ∙ ap (body_joined job g (grid_of job s) tiles) is)
        ∙ partials_join_to_answer_in_any_order job g s tiles good there same in
        ap (λ (xs : List ℤ). record { stage = g; lo = bins.lo; bins = xs } ∷ [])
        (fold_map (joined_bins way) partial (starts way bins) tiles ∙ joined)
