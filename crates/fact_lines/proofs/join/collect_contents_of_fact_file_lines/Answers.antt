use Rattle.std.proofs.Common.{◌≡◌, ◌<◌, ◌+◌, ◌==◌, ◌∙◌, ℕ, ap, get_or, length, refl, subst, sym, rules}
use Rattle.std.proofs.lemmas.Iterator.Consumers.{YieldsList-end, YieldsList-turn}
use Rattle.std.proofs.lemmas.Iterator.Splits.{YieldsList-from_slice_split}
use Rattle.std.proofs.lemmas.List.{length_push}
use Rattle.std.proofs.lemmas.Result.{err_from_is_err_and}
use Rattle.fact_lines.specs.Texts.{lines}
use Rattle.fact_lines.proofs.GatheringLaws.{all_lines, line_at_fault, takes_line}
use Rattle.fact_lines.proofs.join.collect_contents_of_fact_file_lines.Goals as goal

pub loop-line-preserved : goal.loop-line-preserved
loop-line-preserved c =
    let all = lines c.args.text.now in
    let line = c.in-Some.line.now in
    let turn =
    YieldsList-turn (YieldsList-from_slice_split _ (λ byte. byte == 10) c.args.text.now (cc) (cc) (cc) (λ x b q k. search rules))
    c.loop-line.yielded _ c.loop-line.yielded_by _ _ c.in-Some.line c.in-Some.is c.next.ensures.steps in
    let here = subst (λ (n : ℕ). (n < length all) × (line ≡ get_or all n line)) (sym c.loop-line.invariant.count) turn in
    record {
      count = ap (λ n. n + 1) c.loop-line.invariant.count ∙ sym (length_push c.loop-line.yielded c.in-Some.line);
      gathered = takes_line all c.loop-line.number line _ _ _ _ here c.loop-line.invariant.gathered c.in_ok-add_fact_file_line.ensures.added;
    }

pub returns-in_err-add_fact_file_line-clause-fault : goal.returns-in_err-add_fact_file_line-clause-fault
returns-in_err-add_fact_file_line-clause-fault c =
    let all = lines c.args.text.now in
    let line = c.in-Some.line.now in
    let turn =
    YieldsList-turn (YieldsList-from_slice_split _ (λ byte. byte == 10) c.args.text.now (cc) (cc) (cc) (λ x b q k. search rules))
    c.loop-line.yielded _ c.loop-line.yielded_by _ _ c.in-Some.line c.in-Some.is c.next.ensures.steps in
    let here = subst (λ (n : ℕ). (n < length all) × (line ≡ get_or all n line)) (sym c.loop-line.invariant.count) turn in
    let p = err_from_is_err_and c.from_residual.result c.from_residual.ensures.1 in
    rw (p.1, p.2)
    (line_at_fault c.args.text.now c.loop-line.number _ line _ _ _ here refl c.loop-line.invariant.gathered c.in_err-add_fact_file_line.ensures.fault)

pub returns-clause-found : goal.returns-clause-found
returns-clause-found c =
    let end =
    YieldsList-end (YieldsList-from_slice_split _ (λ byte. byte == 10) c.args.text.now (cc) (cc) (cc) (λ x b q k. search rules))
    c.loop-line.yielded _ c.loop-line.yielded_by _ _ c.in-None.is c.next.ensures.steps in
    all_lines c.args.text.now c.loop-line.number _ _ (c.loop-line.invariant.count ∙ end.1) c.loop-line.invariant.gathered
