-- What updates make of a state.
use Rattle.std.specs.Prelude.{List, [], ◌∷◌}
use Rattle.node_state.specs.States.{State, nothing, with_fact, with_retired}
use Rattle.tile_fact.specs.declared.update.Update.{Update}
use Rattle.tile_fact.specs.declared.update.Update.TheVariants.{Fact as fact, Retire as retirement}

-- a state with one update more
abbrev pub with_update : State → Update → State
with_update s (fact f) = with_fact s f
with_update s (retirement i) = with_retired s i

-- a state with these updates too, one after another
abbrev pub with_updates : State → List Update → State
with_updates s [] = s
with_updates s (u ∷ us) = with_updates (with_update s u) us

-- what these updates alone make
abbrev pub state_of : List Update → State
state_of us = with_updates nothing us
