use Rattle.std.proofs.Common.{rules, ℕ, ◌≡◌, List, replicate, map, sym, ◌∙◌}
use Rattle.std.specs.Prelude.{IfOk}
use Rattle.std.specs.Global.{Vec}
use Rattle.std.proofs.lemmas.Result.{IfOk-weaker}
use Rattle.std.proofs.lemmas.Simd.{splat_is_map}
use Rattle.domains.specs.declared.area.Area.{Area}
use Rattle.job.specs.Kept.{pipeline_in}
use Rattle.grouping.specs.inside.Standings.{areas_at}
use Rattle.grouping.proofs.greedy.new_zero_scratch_of_group_tiles.Goals as goal

pub returns : goal.returns
returns c =
    let areas : List Area = areas_at (pipeline_in c.args.job.now) c.args.number in
    let n : ℕ = c.count_group_tiles.result in
    let made : IfOk c.vec.result (λ (v : Vec ℕ). v.items ≡ replicate n 0) = search rules in
    IfOk-weaker c.vec.result (λ (v : Vec ℕ). v.items ≡ replicate n 0) (λ (v : Vec ℕ). v.items ≡ map (λ (a : Area). 0) areas)
    (λ v e. e ∙ splat_is_map areas n 0 (sym c.count_group_tiles.ensures)) made
