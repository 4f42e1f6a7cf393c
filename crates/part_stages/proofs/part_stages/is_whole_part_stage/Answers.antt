use Rattle.std.proofs.Common.{rules, ℕ, map, subst, sym}
use Rattle.std.specs.Prelude.{All}
use Rattle.domains.specs.Area.{HoldsPoint, IsSubarea}
use Rattle.domains.specs.declared.area.Area.{Area}
use Rattle.job.specs.Kept.{pipeline_in}
use Rattle.job.specs.Pipeline.{Stage}
use Rattle.job.specs.ReadViews.{read_view}
use Rattle.job.specs.Reads.{EachTaken, reads_of}
use Rattle.job.specs.Views.{stage_view}
use Rattle.job.specs.WellFormed.{IsReadable}
use Rattle.part_stages.specs.Parts.{AreBelow, IsPartArea}
use Rattle.part_stages.proofs.part_stages.is_whole_part_stage.Goals as goal

pub returns-in-Some : goal.returns-in-Some
returns-in-Some c = λ yes.
    let job = pipeline_in c.args.job.now in
    let s : Stage = stage_view c.args.stage.now in
    let below : AreBelow c.count_stages_of_part_ranks.result (reads_of s.body) = search rules in
    let points : IsPartArea job (map read_view c.reads.result.now) c.in-Some.area = c.in-Some.ensures in
    let inside : IsSubarea c.in-Some.area c.domain.result.now = c.inside.ensures.0 yes in
    record {
      below = subst (λ (n : ℕ). AreBelow n (reads_of s.body)) c.count_stages_of_part_ranks.ensures below;
      whole = λ r k each.
          subst (λ (a : Area). HoldsPoint a r k) c.domain.ensures (inside r k (points.whole r k
          (subst (All (λ x. EachTaken (IsReadable job.stages) x r k)) (sym c.reads.ensures) each)));
    }
