use Rattle.std.proofs.Common.{◌≡◌, ◌∙◌, ap, sym, true, false}
use Rattle.identity.specs.Keys.{ids_in}
use Rattle.node_state.proofs.StateLaws.{retired_fact, taken, taken_state}
use Rattle.node_state.specs.States.{retires}
use Rattle.node_state.proofs.state.NodeState.take.Goals as goal

pub returns-then-has_retired_job-clause-added : goal.returns-then-has_retired_job-clause-added
returns-then-has_retired_job-clause-added g c =
    let asked : retires c.args.self.now (ids_in c.args.fact.key) ≡ true =
    ap (retires c.args.self.now) (sym (c.from_key.ensures ∙ ap ids_in c.key.ensures)) ∙ sym c.has_retired_job.ensures.retired ∙ c.if-has_retired_job.true in
    retired_fact c.args.self.now c.args.fact c.has_retired_job.ensures.state asked

pub invariant_of-self : goal.invariant_of-self
invariant_of-self g c =
    let asked : retires c.args.self.now (ids_in c.args.fact.key) ≡ false =
    ap (retires c.args.self.now) (sym (c.from_key.ensures ∙ ap ids_in c.key.ensures)) ∙ sym c.has_retired_job.ensures.retired ∙ c.if-has_retired_job.false in
    taken_state c.self.inside.held c.self.inside.retired c.args.self.now c.self.view_is c.self.invariant c.args.fact asked c.hold_fact.result
    c.hold_fact.new.self c.hold_fact.ensures.added c.hold_fact.ensures.unchanged

pub returns-clause-added : goal.returns-clause-added
returns-clause-added g c =
    let asked : retires c.args.self.now (ids_in c.args.fact.key) ≡ false =
    ap (retires c.args.self.now) (sym (c.from_key.ensures ∙ ap ids_in c.key.ensures)) ∙ sym c.has_retired_job.ensures.retired ∙ c.if-has_retired_job.false in
    taken c.self.inside.held c.self.inside.retired c.args.self.now c.self.view_is c.self.invariant c.args.fact asked c.hold_fact.result
    c.hold_fact.new.self c.hold_fact.ensures.added
