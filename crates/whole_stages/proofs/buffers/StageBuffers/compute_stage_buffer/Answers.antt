use Rattle.std.proofs.Common.{◌≡◌, false, length, sym, ap, ◌∙◌}
use Rattle.domains.specs.Area.{point_count}
use Rattle.job.specs.Kept.{pipeline_in}
use Rattle.job.specs.Pipeline.{Stage, Pipeline}
use Rattle.job.specs.Views.{stage_view}
use Rattle.job.specs.WellFormed.{IsValued}
use Rattle.whole_stages.proofs.Knowing.{kept_values, valued_kind, values_long}
use Rattle.whole_stages.proofs.buffers.StageBuffers.compute_stage_buffer.Goals as goal

pub invariant_of-result : goal.invariant_of-result
invariant_of-result c =
    let job : Pipeline = pipeline_in c.args.job.now in
    let s : Stage = stage_view c.in-Some.stage.now in
    let valued : IsValued s.body = valued_kind s.body (λ e. let no : c.ne.result ≡ false = rw (c.kind.ensures ∙ e) at c.ne.ensures in cc) in
    record {
      size =
          ap length c.in_ok-compute_stage_values-in-Some.ensures ∙ values_long job c.args.number s (sym c.in-Some.ensures) valued
          ∙ ap point_count (sym c.domain.ensures);
    }

pub returns-in_ok-compute_stage_values-in-Some : goal.returns-in_ok-compute_stage_values-in-Some
returns-in_ok-compute_stage_values-in-Some c =
    let job : Pipeline = pipeline_in c.args.job.now in
    let s : Stage = stage_view c.in-Some.stage.now in
    let valued : IsValued s.body = valued_kind s.body (λ e. let no : c.ne.result ≡ false = rw (c.kind.ensures ∙ e) at c.ne.ensures in cc) in
    kept_values job c.args.number s _ (sym c.in-Some.ensures) valued c.domain.ensures c.in_ok-compute_stage_values-in-Some.ensures
