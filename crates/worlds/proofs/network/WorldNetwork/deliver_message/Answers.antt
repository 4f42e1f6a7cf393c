use Rattle.std.proofs.Common.{◌≡◌, ◌<◌, ℕ, [], sym, ◌∙◌, subst}
use Rattle.std.proofs.lemmas.Result.{err_from_is_err_and}
use Rattle.worlds.proofs.StepLaws.{delivered, misaddressed, new_ones, not_delivered}
use Rattle.worlds.proofs.network.WorldNetwork.deliver_message.Goals as goal

pub returns-then-message-n-clause-refused : goal.returns-then-message-n-clause-refused
returns-then-message-n-clause-refused g c = λ u.
    misaddressed u _ _ c.self.view_is c.args.n
    (subst (λ x. c.args.n < x) (c.len.ensures ∙ c.self.inside.nodes.ok.0) c.if-n-len.false) c.args.k _ _
    c.message.view_is (subst (λ x. c.args.k < x) (c.len-2.ensures ∙ c.self.inside.messages.ok.0) c.if-k-len.false) c.index-message.ensures
    c.if-message-n.true

pub returns-in_err-count-clause-refused : goal.returns-in_err-count-clause-refused
returns-in_err-count-clause-refused g c = λ u.
    let p = err_from_is_err_and c.from_residual.result c.from_residual.ensures.1 in
    rw (p.1, p.2)
    (not_delivered u _ _ c.self.view_is c.args.n
    (subst (λ x. c.args.n < x) (c.len.ensures ∙ c.self.inside.nodes.ok.0) c.if-n-len.false) c.args.k
    _ _ c.message.view_is (subst (λ x. c.args.k < x) (c.len-2.ensures ∙ c.self.inside.messages.ok.0) c.if-k-len.false)
    c.index-message.ensures
    _ _ c.node.view_is c.index_mut-node.ensures.value c.if-message-n.false c.merge.new.self c.in_err-count.ensures.unchanged)

pub returns-clause-done : goal.returns-clause-done
returns-clause-done g c = λ u.
    delivered u _ _ c.self.view_is c.args.n (subst (λ x. c.args.n < x) (c.len.ensures ∙ c.self.inside.nodes.ok.0) c.if-n-len.false)
    c.args.k _ _
    c.message.view_is (subst (λ x. c.args.k < x) (c.len-2.ensures ∙ c.self.inside.messages.ok.0) c.if-k-len.false) c.index-message.ensures
    _ _ c.node.view_is c.index_mut-node.ensures.value c.if-message-n.false c.merge.new.self c.in_ok-count.ensures.joined

pub returns-clause-answer : goal.returns-clause-answer
returns-clause-answer g c =
    new_ones (record { jobs = []; schedules = [] }) _ _ c.self.view_is c.args.n
    (subst (λ x. c.args.n < x) (c.len.ensures ∙ c.self.inside.nodes.ok.0) c.if-n-len.false) c.args.k _ _ c.message.view_is
    (subst (λ x. c.args.k < x) (c.len-2.ensures ∙ c.self.inside.messages.ok.0) c.if-k-len.false) c.index-message.ensures
    _ _ c.node.view_is c.index_mut-node.ensures.value c.if-message-n.false c.merge.new.self c.in_ok-count.count c.in_ok-count.ensures.new
