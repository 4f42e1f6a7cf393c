use Rattle.std.proofs.Common.{arith, ◌≡◌, ◌<◌, ◌≤◌, ℕ, [], refl, ap, ◌∙◌, subst}
use Rattle.std.proofs.lemmas.Result.{err_from_is_err_and}
use Rattle.gossip_events.specs.declared.event.Event.TheVariants.{Merge}
use Rattle.node_state.specs.States.{join}
use Rattle.worlds.proofs.StepLaws.{merged, merged_new, not_merged, not_there}
use Rattle.worlds.proofs.network.WorldNetwork.merge.Goals as goal
use Rattle.worlds.proofs.network.WorldNetwork.merge.Goals.{then-n-len-via-then-n-len, then-n-len-via-else-n-len+then-other-len}

pub returns-then-n-len-clause-refused : goal.returns-then-n-len-clause-refused
returns-then-n-len-clause-refused g c u =
    elim c.then-n-len.branch [
      | then-n-len-via-then-n-len w ↦
          not_there u _ _ (Merge c.args.n c.args.other) c.args.n c.self.view_is (0, omega arith, refl)
          (subst (λ x. x ≤ c.args.n) (c.len.ensures ∙ c.self.inside.nodes.ok.0) w.if-n-len.true)
      | then-n-len-via-else-n-len+then-other-len w ↦
          not_there u _ _ (Merge c.args.n c.args.other) c.args.other c.self.view_is (1, omega arith, refl)
          (subst (λ x. x ≤ c.args.other) (w.len-else-n-len.ensures ∙ c.self.inside.nodes.ok.0) w.if-other-len.true)
    ]

pub returns-in_err-count-clause-refused : goal.returns-in_err-count-clause-refused
returns-in_err-count-clause-refused g c = λ u.
    let p = err_from_is_err_and c.from_residual-in_err-count.result c.from_residual-in_err-count.ensures.1 in
    rw (p.1, p.2)
    (not_merged u _ _ c.self.view_is c.args.n
    (subst (λ x. c.args.n < x) (c.len.ensures ∙ c.self.inside.nodes.ok.0) c.if-n-len.false) c.args.other
    (subst (λ x. c.args.other < x) (c.len-else-n-len.ensures ∙ c.self.inside.nodes.ok.0) c.if-other-len.false)
    _ _ c.behind-self.view_is c.index.ensures _ _ c.node.view_is c.index_mut-node.ensures.value c.merge.new.self
    c.in_err-count.ensures.unchanged)

pub returns-clause-done : goal.returns-clause-done
returns-clause-done g c = λ u.
    merged u _ _ c.self.view_is c.args.n
    (subst (λ x. c.args.n < x) (c.len.ensures ∙ c.self.inside.nodes.ok.0) c.if-n-len.false) c.args.other
    (subst (λ x. c.args.other < x) (c.len-else-n-len.ensures ∙ c.self.inside.nodes.ok.0) c.if-other-len.false)
    _ _ c.behind-self.view_is c.index.ensures _ _ c.node.view_is c.index_mut-node.ensures.value c.merge.new.self
    (c.in_ok-count.ensures.joined ∙ ap (join c.node.inside.held) c.in_ok-copy.ensures)

pub returns-clause-answer : goal.returns-clause-answer
returns-clause-answer g c =
    merged_new (record { jobs = []; schedules = [] }) _ _ c.self.view_is c.args.n
    (subst (λ x. c.args.n < x) (c.len.ensures ∙ c.self.inside.nodes.ok.0) c.if-n-len.false) c.args.other
    (subst (λ x. c.args.other < x) (c.len-else-n-len.ensures ∙ c.self.inside.nodes.ok.0) c.if-other-len.false)
    _ _ c.behind-self.view_is c.index.ensures _ _ c.node.view_is c.index_mut-node.ensures.value c.merge.new.self
    c.in_ok-count.count c.in_ok-count.ensures.new
