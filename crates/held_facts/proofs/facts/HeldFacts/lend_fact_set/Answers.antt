use Rattle.std.proofs.Common.{refl, length}
use Rattle.std.proofs.lemmas.Option.{slice_get_read}
use Rattle.held_facts.proofs.LentLaws.{lent_none, lent_more, lent_all}
use Rattle.held_facts.proofs.facts.HeldFacts.lend_fact_set.Goals as goal

pub loop-key-init : goal.loop-key-init
loop-key-init g c f = rw c.new-state.ensures (lent_none c.args.self.now f)

pub loop-key-preserved : goal.loop-key-preserved
loop-key-preserved g c =
    let keys = c.args.keys.now in
    lent_more c.args.self.now c.loop-key.state c.add_facts_of_key_from_other.new.self keys c.loop-key.key-index c.key-item.result
    (slice_get_read keys (length keys) c.loop-key.key-index c.key-item.result refl c.loop-key-test.true c.key-item.is) c.loop-key.invariant
    c.in_ok-add_facts_of_key_from_other.ensures

pub returns-clause-lent : goal.returns-clause-lent
returns-clause-lent g c =
    lent_all c.args.self.now c.loop-key.state c.args.keys.now c.loop-key.key-index c.loop-key-test.false c.loop-key.invariant
