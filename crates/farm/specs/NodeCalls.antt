-- What a worker's calls of its node leave in its hand.
use Rattle.std.specs.Prelude.{◌≡◌, List, [], ◌∷◌, ◌++◌}
use Rattle.farm.specs.declared.hand.CheckpointStep.{CheckpointStep}
use Rattle.farm.specs.declared.hand.CheckpointStep.TheVariants.{Keep, Restart}
use Rattle.live_nodes.specs.declared.event.Event.{Event}
use Rattle.live_nodes.specs.declared.event.Event.TheVariants.{Kept, Restarted}
use Rattle.live_nodes.specs.declared.receipt.Receipt.{Receipt}

-- one receipt more, of this event
abbrev pub IsReceiptAdded : List Receipt → List Receipt → Event → Type 0
IsReceiptAdded old new event = (receipt : Receipt) × (receipt.event ≡ event) × (new ≡ old ++ receipt ∷ [])

abbrev pub event_of_step : CheckpointStep → Event
event_of_step Keep = Kept
event_of_step Restart = Restarted
