-- The borrow of a `Vec`'s numbers, and of a range of them.
use Rattle.std.specs.Prelude.{ℕ, ℤ, List}
use Rattle.std.specs.Borrow.{Lends, MutBor, Fml, Array, i32}
use Rattle.std.specs.Vec.{with_items}
use Rattle.std.specs.Global.{Vec}
use Rattle.scratch.specs.Parts.{with_part}
use Rattle.scratch.specs.Rows.{numbers_row}

-- at its end v has r's last value as its numbers
abbrev pub LendsVec : MutBor (Vec ℤ) → MutBor (List ℤ) → Fml
LendsVec v r = Lends numbers_row (Array i32 0) v r (with_items v.now)

-- at its end v is as now, with r's last value instead of the range
abbrev pub LendsVecPart : MutBor (Vec ℤ) → ℕ → ℕ → MutBor (List ℤ) → Fml
LendsVecPart v start end r = Lends numbers_row (Array i32 0) v r (λ w. with_items v.now (with_part v.now.items start end w))
