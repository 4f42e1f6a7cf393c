use Rattle.std.proofs.Common.{rules, ◌≡◌, ◌++◌, [], ◌∷◌, ap, sym, ◌∙◌}
use Rattle.live_nodes.specs.declared.event.Event.TheVariants.{Lent}
use Rattle.live_nodes.specs.Histories.{Node, replay}
use Rattle.live_nodes.proofs.HistoryLaws.{book_lent}
use Rattle.live_nodes.proofs.LoanLaws.{lent_by_history, true_loan}
use Rattle.node_state.specs.States.{retired_in}
use Rattle.live_nodes.proofs.book.NodeBook.lend.Goals as goal

pub invariant_of-self-2 : goal.invariant_of-self-2
invariant_of-self-2 g c =
    let s = c.self.inside in
    let pushed : c.push_reserved.new.self.items ≡ s.history.items ++ Lent c.args.keys.now c.in_ok-retired.retired.items ∷ [] =
    search rules in
    let told : c.in_ok-retired.retired.items ≡ retired_in s.held = search rules in
    rw pushed (book_lent g.C.NamedCatalog.catalog _ _ _ _ c.args.keys.now _ c.self.invariant c.in_ok-facts.ensures.held told)

pub returns-clause-truth : goal.returns-clause-truth
returns-clause-truth g c =
    let book = c.self.invariant in
    rw c.in_ok-facts.ensures.lent (true_loan g.C.NamedCatalog.catalog _ c.args.keys.now book.jobs book.true_held c.in_ok-facts.ensures.held)

pub returns-clause-lent : goal.returns-clause-lent
returns-clause-lent g c =
    let same : c.args.self.now ≡ c.self.inside.history.items = search rules in
    lent_by_history _ _ c.args.self.now c.args.keys.now _ (ap replay same ∙ c.self.invariant.stands) c.in_ok-facts.ensures.lent

pub returns-clause-retired : goal.returns-clause-retired
returns-clause-retired g c =
    let same : c.args.self.now ≡ c.self.inside.history.items = search rules in
    let told : c.in_ok-retired.retired.items ≡ retired_in c.self.inside.held = search rules in
    told ∙ ap (λ (n : Node). retired_in n.held) (sym (ap replay same ∙ c.self.invariant.stands))
