use Rattle.std.proofs.Common.{◌≡◌, sym, ap, ◌∙◌}
use Rattle.std.specs.Option.{option_map}
use Rattle.worlds.proofs.WorldLaws.{held_taken, held_true}
use Rattle.worlds.proofs.world.World.node.Goals as goal

pub returns-in-Some-clause-truth : goal.returns-in-Some-clause-truth
returns-in-Some-clause-truth g c =
    held_true _ _ c.self.view_is c.args.n _ _ c.node-in-Some.view_is (sym c.node.ensures ∙ ap (option_map (λ q. q.now)) c.in-Some.is)
    c.self.invariant.truth

pub returns-in-Some-clause-took : goal.returns-in-Some-clause-took
returns-in-Some-clause-took g c =
    held_taken _ _ c.self.view_is c.args.n _ _ c.node-in-Some.view_is (sym c.node.ensures ∙ ap (option_map (λ q. q.now)) c.in-Some.is)
