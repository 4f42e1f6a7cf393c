use Rattle.std.proofs.Common.{◌++◌, [], ◌∷◌, List, ℕ, ap, ◌∙◌, sym, filter, take}
use Rattle.std.proofs.lemmas.List.{take_more}
use Rattle.std.proofs.lemmas.List.Elements.{filter-append}
use Rattle.std.specs.Prelude.{slice_index_or}
use Rattle.job.specs.Kept.{pipeline_in}
use Rattle.row_totals.specs.RowTotals.{is_summed}
use Rattle.row_totals.proofs.row_totals.RowTotals.new.Goals as goal

pub loop-stage-preserved : goal.loop-stage-preserved
loop-stage-preserved c =
    let before = c.loop-stage.invariant in
    let added = c.in_ok-add_row_total.ensures in
    let at = c.loop-stage.stage-index in
    let stages = c.args.stages.now in
    let stage = slice_index_or stages at 0 in
    let P = is_summed (pipeline_in c.args.job.now) in record {
      job = ap (λ kept. kept.now) added.job ∙ before.job;
      stages =
          added.stages
          ∙ ap (λ (l : List ℕ). l ++ filter (is_summed (pipeline_in c.loop-stage.totals.job.now)) (stage ∷ [])) before.stages
          ∙ ap (λ kept. filter P (take at stages) ++ filter (is_summed (pipeline_in kept)) (stage ∷ [])) before.job
          ∙ sym (ap (filter P) (take_more stages at 0 c.loop-stage-test.true) ∙ filter-append P (take at stages) (stage ∷ []));
      none = added.none before.none;
    }
