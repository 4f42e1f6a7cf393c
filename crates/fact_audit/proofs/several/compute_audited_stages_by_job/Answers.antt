use Rattle.std.proofs.Common.{◌+◌, List, subst, sym, arith}
use Rattle.catalog.specs.Entries.{entry_of}
use Rattle.whole_stages.specs.declared.true_stages.ComputedWholeStages.{ComputedWholeStages}
use Rattle.fact_audit.specs.inside.Ready.{AreStagesFor}
use Rattle.fact_audit.proofs.Pairing.{IsBegun, begun_more}
use Rattle.fact_audit.proofs.Serving.{all_ready}
use Rattle.fact_audit.proofs.several.compute_audited_stages_by_job.Goals as goal

pub loop-index-preserved : goal.loop-index-preserved
loop-index-preserved c =
    let catalog = c.args.catalog.now in
    let serve = AreStagesFor c.args.facts.now in
    subst (λ (known : List ComputedWholeStages). IsBegun serve catalog known (c.loop-index.index + 1)) (sym c.in_ok-push.ensures.items)
    (begun_more serve catalog c.loop-index.known.items c.loop-index.index (entry_of c.in-Some.job.now) c.in_ok-compute_audited_stages_of_job.field-0
    (sym c.in-Some.ensures.job) c.in_ok-compute_audited_stages_of_job.ensures c.loop-index.invariant)

pub returns : goal.returns
returns c =
    let end = c.loop-index-test.false in
    let all = c.len-index-end.ensures in
    all_ready c.args.catalog.now c.args.facts.now c.loop-index.known.items c.loop-index.index (omega (arith, end, all))
    c.loop-index.invariant
