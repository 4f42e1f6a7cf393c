-- The lines of what all accumulators gathered are the lines of the accumulators.
use Rattle.std.proofs.Common.{◌≡◌, ◌++◌, List, [], ◌∷◌, ℕ, Option, Some, None, length, map, slice_get, refl, sym, ap, ◌∙◌, append_assoc}
use Rattle.std.specs.List.{flat_map, range_with_len}
use Rattle.std.specs.Option.{option_map_or}
use Rattle.std.proofs.lemmas.List.{append-nil}
use Rattle.std.proofs.lemmas.Grind.{flat_map-append}
use Rattle.std.proofs.lemmas.List.Folds.{flat_map-map}
use Rattle.accumulators.specs.Answers.{Gathered, gathered, body_gathered, gathered_at, all_gathered, IsAnswer}
use Rattle.accumulators.specs.declared.answer.Answer.{Answer}
use Rattle.accumulators.specs.declared.answer.Total.{Total}
use Rattle.netpbm.specs.Spelling.{spelling}
use Rattle.job.specs.Answers.{image}
use Rattle.job.specs.Pipeline.{Body, plane, function, accumulator, Stage, Pipeline}
use Rattle.job.specs.Totals.{totals}
use Rattle.command_jobs.specs.inside.Gathering.{body_gathered_line, gathered_line}
use Rattle.command_jobs.specs.Results.{body_line, line_at, result_bytes, total_lines}

-- the line of a stage is the line of what it gathered
body_lines : (job : Pipeline) (g : ℕ) (s : Stage) (b : Body) → slice_get job.stages g ≡ Some s → s.body ≡ b
    → flat_map (gathered_line job) (body_gathered job g b) ≡ body_line job g s b
body_lines job g s (plane n) there is = refl
body_lines job g s (function pieces otherwise) there is = refl
body_lines job g s (accumulator way bins value bin) there is =
    let x : Gathered = record { stage = g; lo = bins.lo; bins = totals job g } in
    append-nil (gathered_line job x)
    ∙ ap (λ o. option_map_or (λ (s : Stage). body_gathered_line x s s.body) o []) there
    ∙ ap (body_gathered_line x s) is

stage_lines : (job : Pipeline) (g : ℕ) (o : Option Stage) → slice_get job.stages g ≡ o
    → flat_map (gathered_line job) (option_map_or (λ (s : Stage). body_gathered job g s.body) o [])
    ≡ option_map_or (λ (s : Stage). body_line job g s s.body) o []
stage_lines job g None there = refl
stage_lines job g (Some s) there = body_lines job g s s.body there refl

lines_along : (job : Pipeline) (gs : List ℕ) → flat_map (gathered_line job) (flat_map (gathered_at job) gs) ≡ flat_map (line_at job) gs
lines_along job [] = refl
lines_along job (g ∷ gs) =
    flat_map-append (gathered_line job) (gathered_at job g) (flat_map (gathered_at job) gs)
    ∙ ap (λ xs. xs ++ flat_map (gathered_line job) (flat_map (gathered_at job) gs)) (stage_lines job g (slice_get job.stages g) refl)
    ∙ ap (λ xs. line_at job g ++ xs) (lines_along job gs)

pub lines_gathered : (job : Pipeline) (ts : List Total) → map gathered ts ≡ all_gathered job
    → flat_map (λ t. gathered_line job (gathered t)) ts ≡ total_lines job
lines_gathered job ts is =
    sym (flat_map-map (gathered_line job) gathered ts)
    ∙ ap (flat_map (gathered_line job)) is
    ∙ lines_along job (range_with_len 0 (length job.stages))

-- a line that is put together part by part
pub in_turn : (old name ends bins a b c d : List ℕ) → a ≡ old ++ name → b ≡ a ++ ends → c ≡ b ++ bins → d ≡ c ++ 10 ∷ []
    → d ≡ old ++ (((name ++ ends) ++ bins) ++ 10 ∷ [])
in_turn old name ends bins a b c d first second third last =
    last
    ∙ ap (λ xs. xs ++ 10 ∷ []) (third ∙ ap (λ xs. xs ++ bins) (second ∙ ap (λ xs. xs ++ ends) first))
    ∙ regroup old name ends bins (10 ∷ [])
  where
    regroup : (a b c d e : List ℕ) → (((a ++ b) ++ c) ++ d) ++ e ≡ a ++ (((b ++ c) ++ d) ++ e)
    regroup a b c d e = simp append_assoc

-- the picture and the lines of an answer are the result
pub answer_bytes : (job : Pipeline) (answer : Answer) (totals : List Total) (lines : List ℕ) → IsAnswer job answer
    → totals ≡ answer.totals.items
    → lines ≡ flat_map (λ t. gathered_line job (gathered t)) totals → option_map_or spelling answer.picture [] ++ lines ≡ result_bytes job
answer_bytes job answer totals lines is same are =
    ap (λ p. option_map_or spelling p [] ++ lines) is.picture
    ∙ ap (λ bs. option_map_or spelling (image job) [] ++ bs) (are ∙ lines_gathered job totals (ap (map gathered) same ∙ is.totals))
