use Rattle.std.proofs.Common.{rules, arith, ℕ, ◌≡◌, Option, None, length, replicate, ap, ◌∙◌}
use Rattle.std.specs.Prelude.{IfOk}
use Rattle.std.specs.Global.{Vec}
use Rattle.std.proofs.lemmas.List.{length-map}
use Rattle.std.proofs.lemmas.Result.{IfOk-weaker}
use Rattle.std.proofs.lemmas.Simd.{splat_is_map}
use Rattle.domains.specs.declared.area.Area.{Area}
use Rattle.job.specs.Kept.{pipeline_in}
use Rattle.job.specs.Views.{stage_view}
use Rattle.tile_boxes.specs.Walks.{new_empty_boxes}
use Rattle.tile_boxes.proofs.target.new_empty_boxes.Goals as goal

pub returns-clause-none : goal.returns-clause-none
returns-clause-none c =
    let stages = (pipeline_in c.args.job.now).stages in
    let n : ℕ = length c.stages.result.now in
    let count : length stages ≡ n = omega (arith, ap length c.stages.ensures, length-map c.stages.result.now stage_view) in
    let made : IfOk c.vec.result (λ (v : Vec (Option Area)). v.items ≡ replicate n None) = search rules in
    IfOk-weaker c.vec.result (λ (v : Vec (Option Area)). v.items ≡ replicate n None) (λ (v : Vec (Option Area)). v.items ≡ new_empty_boxes stages)
    (λ v e. e ∙ splat_is_map stages n None count) made
