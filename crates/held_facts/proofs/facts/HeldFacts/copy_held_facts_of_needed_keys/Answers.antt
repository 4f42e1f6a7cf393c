use Rattle.std.proofs.Common.{rules, ◌≡◌, ◌++◌, ◌∷◌, [], refl, length, ◌∙◌}
use Rattle.std.proofs.lemmas.Option.{slice_get_read}
use Rattle.std.proofs.lemmas.Result.{err_from_is_err_and}
use Rattle.job.specs.Kept.{pipeline_in}
use Rattle.held_facts.proofs.ReadyNeeds.{facts_more, ready_more, ready_all, stops}
use Rattle.held_facts.proofs.facts.HeldFacts.copy_held_facts_of_needed_keys.Goals as goal

pub returns-in_err-fact-clause-fault : goal.returns-in_err-fact-clause-fault
returns-in_err-fact-clause-fault g c =
    let keys = c.args.needs.now in
    let here = slice_get_read keys (length keys) c.loop-need.need-index c.need-item.result refl c.loop-need-test.true c.need-item.is in
    let p = err_from_is_err_and c.from_residual-in_err-fact.result c.from_residual-in_err-fact.ensures.1 in
    rw (p.1, p.2)
    (stops c.args.self.now (pipeline_in c.args.job.now) keys c.loop-need.need-index c.need-item.result _ here c.loop-need.invariant.ready
    c.in_err-fact.ensures.fault)

pub loop-need-preserved : goal.loop-need-preserved
loop-need-preserved g c =
    let s = c.args.self.now in
    let job = pipeline_in c.args.job.now in
    let keys = c.args.needs.now in
    let i = c.loop-need.need-index in
    let need = c.need-item.result in
    let fact = c.in_ok-fact.fact in
    let here = slice_get_read keys (length keys) i need refl c.loop-need-test.true c.need-item.is in
    let grown : c.push.new.self.items ≡ c.loop-need.facts.items ++ fact ∷ [] = search rules in
    record {
      facts =
          grown
          ∙ facts_more s job keys i need c.loop-need.facts.items fact here c.loop-need.invariant.facts c.in_ok-fact.ensures.one;
      ready = ready_more s job keys i need fact here c.in_ok-fact.ensures.one c.in_ok-fact.ensures.fits
          c.loop-need.invariant.ready;
    }

pub returns-clause-ready : goal.returns-clause-ready
returns-clause-ready g c =
    ready_all c.args.self.now (pipeline_in c.args.job.now) c.args.needs.now c.loop-need.need-index c.loop-need-test.false
    c.loop-need.invariant.ready
