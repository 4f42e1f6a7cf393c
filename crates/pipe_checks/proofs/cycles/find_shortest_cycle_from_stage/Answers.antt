use Rattle.std.proofs.Common.{ℕ, ◌≤◌, subst, sym}
use Rattle.pipe_checks.specs.StageLinks.{StageLinks}
use Rattle.pipe_checks.specs.inside.Search.{SomeAt, IsWayBack}
use Rattle.pipe_checks.proofs.Ranking.{links_read}
use Rattle.pipe_checks.proofs.Closing.{shortest_from, no_cycle_from}
use Rattle.pipe_checks.proofs.cycles.find_shortest_cycle_from_stage.Goals as goal

pub returns-in-Some-clause-some : goal.returns-in-Some-clause-some
returns-in-Some-clause-some c =
    let g = c.args.graph.now in
    let same = sym (links_read g c.args.start _ c.requires c.index-graph-start.is) in
    let least =
    subst (λ xs. (k : ℕ) → SomeAt xs c.index-graph-start.result.reads k → c.in-Some.left ≤ k) c.deref.ensures.value
    c.in-Some.ensures.least in
    let back =
    subst (λ xs. IsWayBack g c.args.start xs c.in-Some.left c.in_ok-trace_shortest_cycle-in-Some.field-0.items) c.deref-in-Some.ensures.value
    c.in_ok-trace_shortest_cycle-in-Some.ensures in
    shortest_from g c.args.start c.in-Some.left c.in_ok-far.far.items _ c.in_ok-far.ensures
    (subst (λ (l : StageLinks). (k : ℕ) → SomeAt c.in_ok-far.far.items l.reads k → c.in-Some.left ≤ k) same least)
    back

pub returns-clause-none : goal.returns-clause-none
returns-clause-none c =
    let g = c.args.graph.now in
    let same = sym (links_read g c.args.start _ c.requires c.index-graph-start.is) in
    let none = subst (λ xs. (k : ℕ) → SomeAt xs c.index-graph-start.result.reads k → ⊥) c.deref.ensures.value c.in-None.ensures.none in
    no_cycle_from g c.args.start c.in_ok-far.far.items c.in_ok-far.ensures
    (subst (λ (l : StageLinks). (k : ℕ) → SomeAt c.in_ok-far.far.items l.reads k → ⊥) same none)
