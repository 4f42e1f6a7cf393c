use Rattle.std.proofs.Common.{◌+◌, List, length, subst, sym, refl}
use Rattle.std.proofs.lemmas.Option.{slice_get_read}
use Rattle.whole_stages.specs.declared.true_stages.ComputedWholeStages.{ComputedWholeStages}
use Rattle.fact_audit.specs.declared.verdict.Verdict.{Verdict}
use Rattle.fact_audit.specs.Verdicts.{IsVerdict}
use Rattle.fact_audit.specs.inside.Ready.{IsReady}
use Rattle.fact_audit.proofs.Pairing.{IsBegun, begun_more}
use Rattle.fact_audit.proofs.several.audit_facts.Goals as goal

pub judge_fact_among_jobs-requires : goal.judge_fact_among_jobs-requires
judge_fact_among_jobs-requires c =
    let facts = c.args.facts.now in
    let i = c.loop-fact.fact-index in
    let fact = c.fact-item.result in
    let there = slice_get_read facts (length facts) i fact refl c.loop-fact-test.true c.fact-item.is in
    subst (λ (known : List ComputedWholeStages). IsReady c.args.catalog.now known fact) (sym c.deref.ensures.value)
    (c.in_ok-known.ensures i fact there)

pub loop-fact-preserved : goal.loop-fact-preserved
loop-fact-preserved c =
    let facts = c.args.facts.now in
    let i = c.loop-fact.fact-index in
    let fact = c.fact-item.result in
    let judges = IsVerdict c.args.catalog.now in
    let there = slice_get_read facts (length facts) i fact refl c.loop-fact-test.true c.fact-item.is in
    subst (λ (verdicts : List Verdict). IsBegun judges facts verdicts (i + 1)) (sym c.in_ok-push.ensures.items)
    (begun_more judges facts c.loop-fact.verdicts.items i fact c.in_ok-judge_fact_among_jobs.field-0 there c.in_ok-judge_fact_among_jobs.ensures
    c.loop-fact.invariant)
