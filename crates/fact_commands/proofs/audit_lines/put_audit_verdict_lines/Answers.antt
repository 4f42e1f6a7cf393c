use Rattle.std.proofs.lemmas.Slice.Zip.{zip_end, zip_turn}
use Rattle.write_buffer.proofs.PassingLaws.{passes_none, puts_err}
use Rattle.fact_commands.proofs.ZippedLaws.{all_pairs, breaks_pair, passes_pair}
use Rattle.fact_commands.proofs.audit_lines.put_audit_verdict_lines.Goals as goal

pub loop-fact-init : goal.loop-fact-init
loop-fact-init g c = passes_none _ _ _

pub loop-fact-preserved : goal.loop-fact-preserved
loop-fact-preserved g c =
    let facts = c.args.facts.now in
    let verdicts = c.args.verdicts.now in
    let pair = c.in-Some in
    passes_pair facts verdicts c.loop-fact.yielded (pair.fact, pair.verdict) pair.fact.now pair.verdict.now _ _ _ _ _ _ _ _ _
    (zip_turn facts verdicts c.loop-fact.yielded c.into_iter-fact-iterator.result c.loop-fact.fact-iterator c.next.new.self _ (cc) (cc)
    c.loop-fact.yielded_by (pair.fact, pair.verdict) pair.is c.next.ensures.steps)
    c.loop-fact.invariant c.in_ok-put_audit_verdict_line.ensures

pub returns-in_err-put_audit_verdict_line : goal.returns-in_err-put_audit_verdict_line
returns-in_err-put_audit_verdict_line g c =
    let facts = c.args.facts.now in
    let verdicts = c.args.verdicts.now in
    let pair = c.in-Some in
    puts_err c.from_residual.result _ _ _ _ _ _ _ c.from_residual.ensures.0
    (breaks_pair facts verdicts _ pair.fact.now pair.verdict.now _ _ _ _ _ _ _ _
    (zip_turn facts verdicts c.loop-fact.yielded c.into_iter-fact-iterator.result c.loop-fact.fact-iterator c.next.new.self _ (cc) (cc)
    c.loop-fact.yielded_by (pair.fact, pair.verdict) pair.is c.next.ensures.steps)
    c.loop-fact.invariant c.in_err-put_audit_verdict_line.ensures)

pub returns : goal.returns
returns g c =
    let facts = c.args.facts.now in
    let verdicts = c.args.verdicts.now in
    all_pairs facts verdicts _ _ _ _ _ _ _
    (zip_end facts verdicts c.loop-fact.yielded c.into_iter-fact-iterator.result c.loop-fact.fact-iterator c.next.new.self _ (cc) (cc)
    c.loop-fact.yielded_by c.in-None.is c.next.ensures.steps)
    c.loop-fact.invariant
