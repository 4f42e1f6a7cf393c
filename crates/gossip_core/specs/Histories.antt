-- Lists of events, and the worlds that they lead to. A list has its newest event first.
use Rattle.std.specs.Prelude.{◌≡◌, ◌≢◌, ℕ, ◌⊎◌, List, [], ◌∷◌, replicate}
use Rattle.gossip_events.specs.declared.event.Event.{Event}
use Rattle.gossip_core.specs.Networks.{Network}
use Rattle.gossip_core.specs.Steps.{Accepts, IsStepFault, WorldWork, no_states}
use Rattle.gossip_core.specs.declared.fault.StepFault.{StepFault}
use Rattle.gossip_core.specs.declared.fault.StepFault.TheVariants.{Memory}

-- so many nodes that hold nothing, and no message
abbrev pub start : ℕ → Network
start size = record { nodes = replicate size no_states; messages = [] }

-- the event has a fault other than that memory is refused
abbrev pub IsRefused : WorldWork → Network → Event → Type 0
IsRefused u w e = (fault : StepFault) × (fault ≢ Memory) × IsStepFault u w e fault

-- an event is accepted, and is then among the accepted ones, or it is refused and changes nothing
abbrev pub Goes : WorldWork → Network → Event → Network → List Event → List Event → Type 0
Goes u old e new earlier accepted =
    (Accepts u old e new × (accepted ≡ e ∷ earlier)) ⊎ (IsRefused u old e × (new ≡ old) × (accepted ≡ earlier))

-- the events lead from so many nodes that hold nothing to this world, and these of them were accepted
abbrev pub Leads : WorldWork → ℕ → List Event → List Event → Network → Type 0
Leads u size [] accepted w = (accepted ≡ []) × (w ≡ start size)
Leads u size (e ∷ before) accepted w =
    (old : Network) × (earlier : List Event) × Leads u size before earlier old × Goes u old e w earlier accepted
