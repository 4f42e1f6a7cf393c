-- What the history of one node leaves, and which histories are legal. A history has its oldest event first.
use Rattle.std.specs.Prelude.{◌≡◌, List, [], ◌∷◌}
use Rattle.held_facts.specs.Answers.{AreHeld}
use Rattle.node_state.specs.States.{State, nothing, join, retired_in}
use Rattle.live_nodes.specs.Updates.{state_of}
use Rattle.live_nodes.specs.declared.event.Event.{Event}
use Rattle.live_nodes.specs.declared.event.Event.TheVariants.{Lent, Took, Kept, Restarted}

-- what a node holds, and what it keeps for a restart
pub record Node : Type 0 where
  pub held : State
  pub kept : State

abbrev pub new_node : Node
new_node = record { held = nothing; kept = nothing }

-- the node after an event
abbrev pub node_after : Node → Event → Node
node_after n (Lent keys retired) = n
node_after n (Took updates) = record { held = join n.held (state_of updates); kept = n.kept }
node_after n Kept = record { held = n.held; kept = n.held }
node_after n Restarted = record { held = n.kept; kept = n.kept }

abbrev pub replay_from : Node → List Event → Node
replay_from n [] = n
replay_from n (e ∷ history) = replay_from (node_after n e) history

-- the node after a history that began with nothing held and nothing kept
abbrev pub replay : List Event → Node
replay history = replay_from new_node history

-- keys are lent if a fact of each is held, and all retired jobs are reported with them
abbrev pub MayFollow : Node → Event → Type 0
MayFollow n (Lent keys retired) = AreHeld n.held.facts keys × (retired ≡ retired_in n.held)
MayFollow n (Took updates) = Unit {0}
MayFollow n Kept = Unit {0}
MayFollow n Restarted = Unit {0}

abbrev pub IsLegalFrom : Node → List Event → Type 0
IsLegalFrom n [] = Unit {0}
IsLegalFrom n (e ∷ history) = MayFollow n e × IsLegalFrom (node_after n e) history

-- each event is allowed where it is
abbrev pub IsLegal : List Event → Type 0
IsLegal history = IsLegalFrom new_node history
