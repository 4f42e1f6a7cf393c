use Rattle.std.proofs.Common.{rules, ℕ, ◌+◌, ◌≡◌, ◌<◌, List, [], Some, length, map, ap, sym, subst, ◌∙◌}
use Rattle.std.specs.Prelude.{All}
use Rattle.std.proofs.lemmas.List.Elements.{All-map}
use Rattle.domains.specs.Greatest.{greatest}
use Rattle.job.specs.Kept.{pipeline_in}
use Rattle.job.specs.Pipeline.{function, rank_of}
use Rattle.job.specs.ReadViews.{read_view}
use Rattle.job.specs.Reads.{Read, reads_in, reads_of, stage_read}
use Rattle.job.specs.Views.{formula_view, stage_view}
use Rattle.job.specs.declared.stage.Stage.{Stage as KeptStage}
use Rattle.part_stages.specs.Parts.{AreBelow, IsPartStage, IsStageArea}
use Rattle.part_stages.proofs.PartJobs.{reads_alone}
use Rattle.part_stages.proofs.part_stage.make_part_stage.Goals as goal

pub returns : goal.returns
returns c =
    let job = pipeline_in c.args.job.now in
    let f = formula_view c.args.formula.now in
    let reads = c.reads-reads.result.now in
    let alone : map read_view reads ≡ reads_of (function [] (Some f)) = c.reads-reads.ensures ∙ ap reads_of c.in_ok-function.ensures in
    let own : map read_view reads ≡ reads_in f = alone ∙ reads_alone f in
    let below : All (λ x. stage_read (read_view x) < c.count_stages_of_part_ranks.result) reads =
    c.are_part_reads_below.ensures c.if-not-are_part_reads_below.false in
    let rank : c.in-Some-checked_add.rank ≡ c.find_greatest_part_rank.result + 1 = search rules in
    subst (λ (s : KeptStage). IsPartStage job f (stage_view s)) (sym c.new.ensures)
    (record {
      formula = c.is_part_formula.ensures c.if-not-is_part_formula.false;
      below =
          subst (AreBelow (length job.stages)) own
          (subst (λ (n : ℕ). AreBelow n (map read_view reads)) c.count_stages_of_part_ranks.ensures
          (All-map (λ x. stage_read x < c.count_stages_of_part_ranks.result) read_view reads below));
      rank =
          rank
          ∙ ap (λ (n : ℕ). n + 1) (c.find_greatest_part_rank.ensures
          ∙ (λ i. greatest (map (λ x. rank_of (c.stages.ensures i) (stage_read x)) (alone i))));
      area = subst (λ (rs : List Read). IsStageArea job rs c.in-Some.area) own c.in-Some.ensures;
      body = c.in_ok-function.ensures;
    })
