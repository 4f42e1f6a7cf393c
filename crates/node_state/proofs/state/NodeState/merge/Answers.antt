use Rattle.std.proofs.Common.{◌≡◌, ◌+◌, ◌-◌, ◌∙◌, ap, arith, length}
use Rattle.fact_store.specs.Facts as sets
use Rattle.fact_store.specs.Facts.{lacked}
use Rattle.states.specs.IdSets.{ids_in_set}
use Rattle.node_state.proofs.StateLaws.{merged, merged_state, state_of, stay}
use Rattle.node_state.specs.States.{count_lacked}
use Rattle.node_state.proofs.state.NodeState.merge.Goals as goal

pub overflow_sub-result : goal.overflow_sub-result
overflow_sub-result g c =
    let less : c.remove_facts_of_jobs.new.self ≡ sets.without (sets.join c.self.inside.held c.other.inside.held) (ids_in_set c.in_ok-retired.retired) =
    c.remove_facts_of_jobs.ensures ∙ (λ k. sets.without (c.in_ok-new.ensures.joined k) (c.as_slice-2.ensures k)) in
    let parts : length (lacked c.self.inside.held c.remove_facts_of_jobs.new.self) + c.in_ok-again.again ≡ c.in_ok-new.new =
    stay c.self.inside.held c.self.inside.retired c.args.self.now c.self.view_is c.self.invariant c.other.inside.held
    c.other.inside.retired c.args.other.now c.other.view_is c.other.invariant c.remove_facts_of_jobs.new.self c.in_ok-retired.retired less
    c.in_ok-retired.ensures c.merge.new.self c.as_slice.result.now c.in_ok-new.new c.in_ok-again.again c.in_ok-new.ensures.joined
    c.as_slice.ensures c.in_ok-new.ensures.new c.in_ok-again.ensures in
    omega (arith, parts)

pub overflow_add-result : goal.overflow_add-result
overflow_add-result g c = omega (arith, c.in_ok-new.ensures.few, c.count_job_ids_only_in_other-more.ensures.few)

pub invariant_of-self-2 : goal.invariant_of-self-2
invariant_of-self-2 g c =
    let less : c.remove_facts_of_jobs.new.self ≡ sets.without (sets.join c.self.inside.held c.other.inside.held) (ids_in_set c.in_ok-retired.retired) =
    c.remove_facts_of_jobs.ensures ∙ (λ k. sets.without (c.in_ok-new.ensures.joined k) (c.as_slice-2.ensures k)) in
    merged_state c.self.inside.held c.self.inside.retired c.args.self.now c.self.view_is c.self.invariant c.other.inside.held
    c.other.inside.retired c.args.other.now c.other.view_is c.other.invariant c.remove_facts_of_jobs.new.self c.in_ok-retired.retired less
    c.in_ok-retired.ensures

pub returns-clause-joined : goal.returns-clause-joined
returns-clause-joined g c =
    let less : c.remove_facts_of_jobs.new.self ≡ sets.without (sets.join c.self.inside.held c.other.inside.held) (ids_in_set c.in_ok-retired.retired) =
    c.remove_facts_of_jobs.ensures ∙ (λ k. sets.without (c.in_ok-new.ensures.joined k) (c.as_slice-2.ensures k)) in
    merged c.self.inside.held c.self.inside.retired c.args.self.now c.self.view_is c.self.invariant c.other.inside.held
    c.other.inside.retired c.args.other.now c.other.view_is c.other.invariant c.remove_facts_of_jobs.new.self c.in_ok-retired.retired less
    c.in_ok-retired.ensures

pub returns-clause-new : goal.returns-clause-new
returns-clause-new g c =
    let less : c.remove_facts_of_jobs.new.self ≡ sets.without (sets.join c.self.inside.held c.other.inside.held) (ids_in_set c.in_ok-retired.retired) =
    c.remove_facts_of_jobs.ensures ∙ (λ k. sets.without (c.in_ok-new.ensures.joined k) (c.as_slice-2.ensures k)) in
    let parts : length (lacked c.self.inside.held c.remove_facts_of_jobs.new.self) + c.in_ok-again.again ≡ c.in_ok-new.new =
    stay c.self.inside.held c.self.inside.retired c.args.self.now c.self.view_is c.self.invariant c.other.inside.held
    c.other.inside.retired c.args.other.now c.other.view_is c.other.invariant c.remove_facts_of_jobs.new.self c.in_ok-retired.retired less
    c.in_ok-retired.ensures c.merge.new.self c.as_slice.result.now c.in_ok-new.new c.in_ok-again.again c.in_ok-new.ensures.joined
    c.as_slice.ensures c.in_ok-new.ensures.new c.in_ok-again.ensures in
    let facts : c.in_ok-new.new - c.in_ok-again.again ≡ length (lacked c.self.inside.held c.remove_facts_of_jobs.new.self) = omega (arith, parts) in
    (λ k. facts k + c.count_job_ids_only_in_other-more.ensures.count k)
    ∙ ap (λ s. count_lacked s (state_of c.remove_facts_of_jobs.new.self c.in_ok-retired.retired)) c.self.view_is
