-- What updates assert, and what remains of them after the retirements among them.
use Rattle.std.specs.Prelude.{◌≡◌, ◌↔◌, true}
use Rattle.identity.specs.Keys.{ids_in}
use Rattle.tile_fact.specs.declared.update.Update.{Update}
use Rattle.tile_fact.specs.declared.update.Update.TheVariants.{Fact as fact, Retire as retirement}
use Rattle.states.specs.States.{State, holds, retires}

-- the state asserts what the update does
abbrev pub Shows : State → Update → Type 0
Shows s (fact f) = holds s f ≡ true
Shows s (retirement i) = retires s i ≡ true

-- what remains of updates: retirements, and the facts whose job none of them retires
abbrev pub Leave : (Update → Type 0) → Update → Type 0
Leave P (fact f) = P (fact f) × ¬ P (retirement (ids_in f.key))
Leave P (retirement i) = P (retirement i)

-- the state has what remains of the updates, and nothing else
abbrev pub IsLeftBy : (Update → Type 0) → State → Type 0
IsLeftBy P s = (u : Update) → Shows s u ↔ Leave P u
