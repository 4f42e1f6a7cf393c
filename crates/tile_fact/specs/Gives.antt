-- What the reader's functions return, where memory may run out.
use Rattle.std.specs.Prelude.{◌≡◌, ◌⊎◌, Result, Ok, Err}
use Rattle.tile_fact.specs.declared.fault.FactFault.{FactFault}
use Rattle.tile_fact.specs.declared.fault.FactFault.TheVariants.{Memory}

-- a value was read
abbrev pub IsRead : {Y : Type 0} → Result Y FactFault → Type 0
IsRead (Ok y) = Unit {0}
IsRead (Err e) = ⊥

-- what a function returned, seen by view, is what reading gives
abbrev pub Gives : {X Y : Type 0} → (X → Y) → Result X FactFault → Result Y FactFault → Type 0
Gives view (Ok x) read = read ≡ Ok (view x)
Gives view (Err e) read = read ≡ Err e

-- the same of a function that only looks for a fault
abbrev pub Checks : {X Y : Type 0} → Result X FactFault → Result Y FactFault → Type 0
Checks (Ok x) read = IsRead read
Checks (Err e) read = read ≡ Err e

-- this holds of what was read, unless memory ran out
abbrev pub IsReadAs : {X : Type 0} → (X → Type 0) → Result X FactFault → Type 0
IsReadAs P (Ok x) = P x
IsReadAs P (Err e) = e ≡ Memory

-- the fault is the one that reading gives, or memory ran out for the value that it gives
abbrev pub Fails : {Y : Type 0} → FactFault → Result Y FactFault → Type 0
Fails e read = (read ≡ Err e) ⊎ ((e ≡ Memory) × IsRead read)

-- what a function returned, seen by view, is what reading gives, unless memory ran out
abbrev pub GivesInMemory : {X Y : Type 0} → (X → Y) → Result X FactFault → Result Y FactFault → Type 0
GivesInMemory view (Ok x) read = read ≡ Ok (view x)
GivesInMemory view (Err e) read = Fails e read
