use Rattle.std.proofs.Common.{ℕ, suc, Option, IfSome, IfNone, arith, subst}
use Rattle.std.specs.Global.{Vec}
use borrow.Author.Count.{below_more}
use Rattle.pipe_checks.specs.Graph.{Way, IsShortestFrom}
use Rattle.pipe_checks.proofs.Closing.{shortest_of_all, acyclic_of}
use Rattle.pipe_checks.proofs.cycles.find_shortest_cycle_from_least_stage.Goals as goal

pub returns-in-Some : goal.returns-in-Some
returns-in-Some c =
    shortest_of_all c.args.graph.now c.loop-start.start c.in-Some.cycle.items
    (subst (λ (o : Option (Vec ℕ)). IfSome o (λ v. IsShortestFrom c.args.graph.now c.loop-start.start v.items)) c.in-Some.is
    c.in_ok-cycle.ensures.some)
    c.loop-start.invariant

pub loop-start-preserved : goal.loop-start-preserved
loop-start-preserved c =
    below_more _ _ c.loop-start.invariant
    (subst (λ (o : Option (Vec ℕ)). IfNone o ((k : ℕ) → Way c.args.graph.now (suc k) c.loop-start.start c.loop-start.start → ⊥))
    c.in_default.is c.in_ok-cycle.ensures.none)

pub unreachable-requires : goal.unreachable-requires
unreachable-requires c = c.requires (acyclic_of c.args.graph.now c.loop-start.start (omega arith) c.loop-start.invariant)
