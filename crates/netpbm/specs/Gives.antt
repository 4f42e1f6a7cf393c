-- What the reader's functions answer, where memory may run out.
use Rattle.std.specs.Prelude.{◌≡◌, ◌⊎◌, Result, Ok, Err}
use Rattle.netpbm.specs.declared.fault.PicFault.{PicFault}
use Rattle.netpbm.specs.declared.fault.PicFault.TheVariants.{Memory}

-- a value was read
abbrev pub IsRead : {Y : Type 0} → Result Y PicFault → Type 0
IsRead (Ok y) = Unit {0}
IsRead (Err e) = ⊥

-- the fault is the one that reading gives, or memory ran out for the value that it gives
abbrev pub Fails : {Y : Type 0} → PicFault → Result Y PicFault → Type 0
Fails e read = (read ≡ Err e) ⊎ ((e ≡ Memory) × IsRead read)

-- what a function returned, seen by view, is what reading gives
abbrev pub Gives : {X Y : Type 0} → (X → Y) → Result X PicFault → Result Y PicFault → Type 0
Gives view (Ok x) read = read ≡ Ok (view x)
Gives view (Err e) read = Fails e read

-- the same of a function that only looks for a fault
abbrev pub Checks : {X Y : Type 0} → Result X PicFault → Result Y PicFault → Type 0
Checks (Ok x) read = IsRead read
Checks (Err e) read = read ≡ Err e

-- bytes that spell this value are read as it alone, unless memory runs out
abbrev pub IsReadAs : {Y : Type 0} → Result Y PicFault → Y → Type 0
IsReadAs (Ok x) y = x ≡ y
IsReadAs (Err e) y = e ≡ Memory
