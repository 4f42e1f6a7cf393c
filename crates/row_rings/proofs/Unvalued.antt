-- An accumulator has no values.
use Rattle.std.proofs.Common.{◌≡◌, ℕ, Some, slice_get, true, false, true≢false, sym, ap, ◌∙◌}
use Rattle.std.specs.Prelude.{Option}
use Rattle.std.specs.Option.{option_map_or}
use Rattle.job.specs.Answers.{is_accumulator, is_accumulator_at}
use Rattle.job.specs.Pipeline.{Body, plane, function, accumulator, Stage, Pipeline}
use Rattle.job.specs.WellFormed.{IsValued}

unvalued : (body : Body) → is_accumulator body ≡ true → IsValued body → ⊥
unvalued (plane n) is valued = true≢false (sym is)
unvalued (function cases otherwise) is valued = true≢false (sym is)
unvalued (accumulator fold bins value bin) is valued = valued

pub accumulator_unvalued : (job : Pipeline) (g : ℕ) (s : Stage) → slice_get job.stages g ≡ Some s → is_accumulator_at job g ≡ true → IsValued s.body → ⊥
accumulator_unvalued job g s there is =
    unvalued s.body (sym (ap (λ (o : Option Stage). option_map_or (λ t. is_accumulator t.body) o false) there) ∙ is)
