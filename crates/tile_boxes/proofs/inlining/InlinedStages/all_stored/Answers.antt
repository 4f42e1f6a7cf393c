use Rattle.std.proofs.Common.{rules, arith, ℕ, ◌≡◌, false, length, replicate, ap, ◌∙◌}
use Rattle.std.proofs.lemmas.List.{length-map}
use Rattle.std.proofs.lemmas.Simd.{splat_is_map}
use Rattle.job.specs.Kept.{pipeline_in}
use Rattle.job.specs.Views.{stage_view}
use Rattle.tile_boxes.proofs.inlining.InlinedStages.all_stored.Goals as goal

pub returns : goal.returns
returns c =
    let stages = (pipeline_in c.args.job.now).stages in
    let n : ℕ = length c.stages.result.now in
    let count : length stages ≡ n = omega (arith, ap length c.stages.ensures, length-map c.stages.result.now stage_view) in
    let made : c.in_ok-inlining.inlining.items ≡ replicate n false = search rules in
    made ∙ splat_is_map stages n false count
