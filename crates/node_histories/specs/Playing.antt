-- Events of a world that do to one of its nodes what a history did to a node.
use Rattle.std.specs.Prelude.{◌≡◌, ℕ, List, [], ◌∷◌, Some, slice_get, slice_set}
use Rattle.live_nodes.specs.Histories.{Node}
use Rattle.live_nodes.specs.Updates.{state_of}
use Rattle.live_nodes.specs.declared.event.Event.{Event}
use Rattle.live_nodes.specs.declared.event.Event.TheVariants.{Lent, Took, Kept, Restarted}
use Rattle.gossip_core.specs.Networks.{Network, Sent}
use Rattle.gossip_core.specs.Steps.{Accepts, WorldWork, held, kept}
use Rattle.gossip_events.specs.declared.event.Event.{Event as Step}
use Rattle.gossip_events.specs.declared.event.Event.TheVariants.{Deliver, Keep, Restart}
use Rattle.tile_fact.specs.declared.update.Update.{Update}

-- what node n of a world holds and keeps
abbrev pub node_in : Network → ℕ → Node
node_in w n = record { held = held w n; kept = kept w n }

-- the world with this state of node n
abbrev pub with_node : Network → ℕ → Node → Network
with_node w n node = record w { nodes = slice_set w.nodes n (record { held = node.held; kept = node.kept }) }

-- the events, the oldest first, lead from one world to another, and none of them is refused
abbrev pub Runs : WorldWork → Network → List Step → Network → Type 0
Runs u w [] new = new ≡ w
Runs u w (e ∷ events) new = (next : Network) × Accepts u w e next × Runs u next events new

-- the events with the newest first, followed by those before them
abbrev pub newest_first : List Step → List Step → List Step
newest_first [] before = before
newest_first (e ∷ events) before = newest_first events (e ∷ before)

-- message k is for node n, and has these updates
abbrev pub Brings : List Sent → ℕ → ℕ → List Update → Type 0
Brings messages n k updates = slice_get messages k ≡ Some (record { to = n; state = state_of updates })

-- what was taken came by a message from any sender. Lending is no event of the world
abbrev pub Plays : List Sent → ℕ → List Event → List Step → Type 0
Plays messages n [] events = events ≡ []
Plays messages n (Lent keys retired ∷ history) events = Plays messages n history events
Plays messages n (Took updates ∷ history) events =
    (k : ℕ) × (rest : List Step) × (events ≡ Deliver n k ∷ rest) × Brings messages n k updates × Plays messages n history rest
Plays messages n (Kept ∷ history) events = (rest : List Step) × (events ≡ Keep n ∷ rest) × Plays messages n history rest
Plays messages n (Restarted ∷ history) events = (rest : List Step) × (events ≡ Restart n ∷ rest) × Plays messages n history rest
