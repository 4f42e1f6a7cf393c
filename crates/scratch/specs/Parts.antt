-- A list with another range, and the borrow of a range of a slice.
use Rattle.std.specs.Prelude.{ℕ, ℤ, List, ◌++◌, take, drop}
use Rattle.std.specs.Borrow.{Lends, MutBor, Fml, Array, i32}

-- xs with w instead of what lies from start to end
abbrev pub with_part : List ℤ → ℕ → ℕ → List ℤ → List ℤ
with_part xs start end w = (take start xs ++ w) ++ drop end xs

-- at its end s is as now, with r's last value instead of the range
abbrev pub LendsPart : MutBor (List ℤ) → ℕ → ℕ → MutBor (List ℤ) → Fml
LendsPart s start end r = Lends (Array i32 0) (Array i32 0) s r (with_part s.now start end)
