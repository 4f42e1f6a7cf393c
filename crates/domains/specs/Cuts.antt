-- The part of a span or of an area where a property holds, where that is a span or an area again.
use Rattle.std.specs.Prelude.{ℤ, ◌↔◌, Option, Some, None}
use Rattle.domains.specs.Span.{Ends, Holds}
use Rattle.domains.specs.Area.{HoldsPoint}
use Rattle.domains.specs.declared.area.Area.{Area}

-- the numbers of a span for which P holds, if there are any
abbrev pub IsCut : (ℤ → Type 0) → Ends → Option Ends → Type 0
IsCut P s None = (v : ℤ) → ¬ (Holds s v × P v)
IsCut P s (Some m) = (v : ℤ) → Holds m v ↔ (Holds s v × P v)

-- the points of an area for which P holds, if there are any
abbrev pub IsCutArea : (ℤ → ℤ → Type 0) → Area → Option Area → Type 0
IsCutArea P a None = (r c : ℤ) → ¬ (HoldsPoint a r c × P r c)
IsCutArea P a (Some m) = (r c : ℤ) → HoldsPoint m r c ↔ (HoldsPoint a r c × P r c)
