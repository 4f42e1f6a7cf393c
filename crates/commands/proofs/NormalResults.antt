-- A job in normal form has the result of the job.
use Rattle.std.proofs.Common.{◌≡◌, ◌≤◌, ◌+◌, ◌-◌, ◌++◌, ℕ, zero, suc, List, [], ◌∷◌, Option, None, length, slice_get, ap, refl, ◌∙◌, arith}
use Rattle.std.proofs.lemmas.List.{append-nil}
use Rattle.std.specs.List.{flat_map, range_with_len}
use Rattle.std.specs.Option.{option_map_or}
use Rattle.netpbm.specs.Spelling.{spelling}
use Rattle.job.specs.Pipeline.{Body, plane, function, accumulator, Pipeline, Stage}
use Rattle.normal_jobs.specs.Alike.{AnswersAlike, IsSameKind}
use Rattle.job.specs.WellFormed.{IsFunction}
use Rattle.normal_jobs.proofs.Begins.{not_shorter, same_begun}
use Rattle.tile_boxes.proofs.Lists.{flat_map_range_more}
use Rattle.command_jobs.specs.Results.{body_line, line_at, result_bytes, total_line, total_lines}

none_past : {X : Type 0} (xs : List X) (k : ℕ) → length xs ≤ k → slice_get xs k ≡ None
none_past [] k h = refl
none_past (x ∷ xs) zero h = absurd (omega (arith, h))
none_past (x ∷ xs) (suc k) h = none_past xs k (omega (arith, h))

one_more : (n k : ℕ) → n + suc k ≡ n + k + 1
one_more n k = omega arith

the_rest : (n m : ℕ) → n ≤ m → m ≡ n + (m - n)
the_rest n m h = omega (arith, h)

module _ (job other : Pipeline) (alike : AnswersAlike job other) where
  body_lines_same : (g : ℕ) (s t : Stage) (b d : Body) → IsSameKind b d → t.name ≡ s.name → body_line other g t d ≡ body_line job g s b
  body_lines_same g s t (plane n) (plane m) z name = refl
  body_lines_same g s t (plane n) (function others rest) z name = absurd z
  body_lines_same g s t (plane n) (accumulator way ends amount place) z name = absurd z
  body_lines_same g s t (function cases otherwise) (plane m) z name = absurd z
  body_lines_same g s t (function cases otherwise) (function others rest) z name = refl
  body_lines_same g s t (function cases otherwise) (accumulator way ends amount place) z name = absurd z
  body_lines_same g s t (accumulator fold bins value bin) (plane m) z name = absurd z
  body_lines_same g s t (accumulator fold bins value bin) (function others rest) z name = absurd z
  body_lines_same g s t (accumulator fold bins value bin) (accumulator way ends amount place) z name =
      λ i. total_line (name i) (z.1 i) (alike.totals g i)

  no_line : (g : ℕ) (t : Stage) → IsFunction t.body → body_line other g t t.body ≡ []
  no_line g t is = none t.body is
    where
      none : (b : Body) → IsFunction b → body_line other g t b ≡ []
      none (plane n) is = absurd is
      none (function cases otherwise) is = refl
      none (accumulator fold bins value bin) is = absurd is

  lines_same : (g : ℕ) → line_at other g ≡ line_at job g
  lines_same g =
      same_begun (λ s. body_line job g s s.body) (λ s. body_line other g s s.body) [] job.stages other.stages alike.stages g
      (λ s t stands. body_lines_same g s t s.body t.body stands.body stands.name) (no_line g)

  -- there is no line behind those of the job
  none_behind : (g : ℕ) → length job.stages ≤ g → line_at job g ≡ []
  none_behind g behind = ap (λ (o : Option Stage). option_map_or (λ s. body_line job g s s.body) o []) (none_past job.stages g behind)

  lines_longer : (k : ℕ)
      → flat_map (line_at job) (range_with_len 0 (length job.stages + k)) ≡ flat_map (line_at job) (range_with_len 0 (length job.stages))
  lines_longer zero = ap (λ (n : ℕ). flat_map (line_at job) (range_with_len 0 n)) (omega arith)
  lines_longer (suc k) =
      ap (λ (n : ℕ). flat_map (line_at job) (range_with_len 0 n)) (one_more (length job.stages) k)
      ∙ flat_map_range_more (line_at job) (length job.stages + k)
      ∙ (λ i. lines_longer k i ++ none_behind (length job.stages + k) (omega arith) i)
      ∙ append-nil (flat_map (line_at job) (range_with_len 0 (length job.stages)))

  total_lines_same : total_lines other ≡ total_lines job
  total_lines_same =
      let longer = not_shorter job.stages other.stages alike.stages in
      (λ i. flat_map (λ g. lines_same g i) (range_with_len 0 (length other.stages)))
      ∙ ap (λ (n : ℕ). flat_map (line_at job) (range_with_len 0 n)) (the_rest (length job.stages) (length other.stages) longer)
      ∙ lines_longer (length other.stages - length job.stages)

  pub same_result_in_normal_form : result_bytes other ≡ result_bytes job
  same_result_in_normal_form = λ i. option_map_or spelling (alike.image i) [] ++ total_lines_same i
