-- The partials that are held of a stage, row by row and tile by tile.
use Rattle.std.proofs.Common.{ℕ, ℤ, ◌+◌, ◌≡◌, ◌||◌, refl, sym, ap, ◌∙◌, subst, Bool, true, false, Option, Some, None, List, []}
use Rattle.std.proofs.Common.{◌∷◌, ◌++◌, append_assoc, map}
use Rattle.std.specs.List.{flat_map, range_with_len}
use Rattle.std.specs.Option.{option_map_or}
use Rattle.std.specs.Prelude.{slice_get}
use Rattle.std.proofs.lemmas.Grind.{flat_map-append}
use Rattle.std.proofs.lemmas.List.Folds.{flat_map-map}
use Rattle.std.proofs.lemmas.List.{append-nil}
use Rattle.std.proofs.lemmas.Option.{none-some}
use Rattle.accumulators.specs.Gatherings.{HasTaken}
use Rattle.accumulators.specs.declared.running.RunningTotal.{RunningTotal}
use Rattle.domains.specs.Span.{Ends}
use Rattle.domains.specs.Pairs.{pairs}
use Rattle.domains.specs.Tiles.{tile_cols, tile_rows, tiles_of}
use Rattle.domains.specs.declared.grid.Grid.{Grid}
use Rattle.tile_boxes.proofs.Lists.{flat_map_range_more}
use Rattle.job.specs.Answers.{is_accumulator, is_output, is_result}
use Rattle.job.specs.Pipeline.{Body, plane, function, accumulator, Pipeline, Stage}
use Rattle.job.specs.Readers.{bins_of, grid_at, stage_bins}
use Rattle.overlap_tiles.proofs.WorkKeys.{no_tiles, grid_tiles}
use Rattle.overlap_tiles.specs.Needs.{key_of, tile_of_stage}
use Rattle.held_facts.specs.HeldAnswers.{held_partials, partials_of}
use Rattle.held_facts.specs.Facts.{FactSet}
use Rattle.held_facts.specs.inside.Gathering.{CameIn, row_partials}

flat_map-pairs : {A B X : Type 0} (h : A × B → List X) (rs : List A) (cs : List B)
    → flat_map h (pairs rs cs) ≡ flat_map (λ r. flat_map (λ c. h (r, c)) cs) rs
flat_map-pairs h [] cs = refl
flat_map-pairs h (r ∷ rs) cs =
    flat_map-append h (map (λ c. (r, c)) cs) (pairs rs cs)
    ∙ (λ i. flat_map-map h (λ c. (r, c)) cs i ++ flat_map-pairs h rs cs i)

module _ (s : FactSet) (program : List ℕ) (job : Pipeline) (g : ℕ) where
  pub by_tiles : (grid : Grid) → grid_at job g ≡ Some grid
      → held_partials s program job g ≡ flat_map (λ t. partials_of s (key_of program job (tile_of_stage g t))) (tiles_of grid)
  by_tiles grid there =
      ap (flat_map (λ t. partials_of s (key_of program job t))) (grid_tiles job g grid there)
      ∙ flat_map-map (λ t. partials_of s (key_of program job t)) (tile_of_stage g) (tiles_of grid)

  pub by_rows : (grid : Grid) → grid_at job g ≡ Some grid
      → held_partials s program job g ≡ flat_map (row_partials s program job g (tile_cols grid)) (range_with_len 0 (tile_rows grid))
  by_rows grid there =
      by_tiles grid there
      ∙ flat_map-pairs (λ t. partials_of s (key_of program job (tile_of_stage g t))) (range_with_len 0 (tile_rows grid))
      (range_with_len 0 (tile_cols grid))

  pub no_partials : grid_at job g ≡ None → held_partials s program job g ≡ []
  no_partials none = ap (flat_map (λ t. partials_of s (key_of program job t))) (no_tiles job g none)

-- ---- what comes in

module _ (job : Pipeline) (g : ℕ) where
  pub none_came : (xs : List (List ℤ)) (before now : RunningTotal) → xs ≡ [] → now ≡ before → CameIn job g xs before now
  none_came xs before now none same = record {
    span = ap (λ (x : RunningTotal). x.span) same;
    taken = λ partials had.
        subst (λ (ys : List (List ℤ)). HasTaken job g ys now)
        (sym (append-nil partials) ∙ ap (λ ys. partials ++ ys) (sym none))
        (subst (HasTaken job g partials) (sym same) had);
  }

  pub one_came : (xs : List (List ℤ)) (x : List ℤ) (before after now : RunningTotal) → xs ≡ x ∷ [] → now ≡ after → after.span ≡ before.span
      → ((partials : List (List ℤ)) → HasTaken job g partials before → HasTaken job g (partials ++ x ∷ []) after)
      → CameIn job g xs before now
  one_came xs x before after now is same span takes = record {
    span = ap (λ (y : RunningTotal). y.span) same ∙ span;
    taken = λ partials had.
        subst (λ (ys : List (List ℤ)). HasTaken job g ys now) (ap (λ ys. partials ++ ys) (sym is))
        (subst (HasTaken job g (partials ++ x ∷ [])) (sym same) (takes partials had));
  }

  -- the next piece of a list that is made of pieces
  pub more_came : (f : ℕ → List (List ℤ)) (n : ℕ) (start before now : RunningTotal)
      → CameIn job g (flat_map f (range_with_len 0 n)) start before
      → CameIn job g (f n) before now → CameIn job g (flat_map f (range_with_len 0 (n + 1))) start now
  more_came f n start before now first next = record {
    span = next.span ∙ first.span;
    taken = λ partials had.
        subst (λ (ys : List (List ℤ)). HasTaken job g ys now)
        (append_assoc partials (flat_map f (range_with_len 0 n)) (f n) ∙ ap (λ ys. partials ++ ys) (sym (flat_map_range_more f n)))
        (next.taken (partials ++ flat_map f (range_with_len 0 n)) (first.taken partials had));
  }

-- ---- what has bins belongs to the answer

by_body : (a : Bool) (body : Body) (span : Ends) → bins_of body ≡ Some span → (a || is_accumulator body) ≡ true
by_body a (plane n) span e = absurd (none-some span e)
by_body a (function cases otherwise) span e = absurd (none-some span e)
by_body true (accumulator way bins value bin) span e = refl
by_body false (accumulator way bins value bin) span e = refl

pub bins_wanted : (job : Pipeline) (g : ℕ) (span : Ends) → stage_bins (slice_get job.stages g) ≡ Some span → is_result job g ≡ true
bins_wanted job g span = by (slice_get job.stages g)
  where
    by : (o : Option Stage) → stage_bins o ≡ Some span
        → (is_output job g || option_map_or (λ s. is_accumulator s.body) o false) ≡ true
    by None e = absurd (none-some span e)
    by (Some s) e = by_body (is_output job g) s.body span e
