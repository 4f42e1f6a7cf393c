use Rattle.std.proofs.Common.{◌≡◌, Some, ap, subst, sym, ◌∙◌}
use Rattle.std.specs.Option.{option_map}
use Rattle.std.proofs.lemmas.Option.{same_Some}
use Rattle.binding.specs.Fits.{IsShaped}
use Rattle.job.specs.Views.{output_view, pipeline_of}
use Rattle.binding.proofs.sizes.can_bind_output_if_any.Goals as goal

pub returns-in-Some : goal.returns-in-Some
returns-in-Some c =
    let seen = output_view c.in-Some.output in
    let there : option_map output_view c.args.pipeline.now.output ≡ Some seen = ap (option_map output_view) c.in-Some.is in (
      (λ t x e. subst (IsShaped (pipeline_of c.args.pipeline.now)) (same_Some seen x (sym there ∙ e)) (c.can_bind_output_shape.ensures.0 t)),
      (λ h. c.can_bind_output_shape.ensures.1 (h seen there)),
    )
