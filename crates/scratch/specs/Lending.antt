-- Scratch memory, and the borrow of a range of it.
use Rattle.std.specs.Prelude.{ℕ, ℤ, List}
use Rattle.std.specs.Borrow.{Lends, MutBor, Fml, Array, i32}
use Rattle.std.specs.declared.ops.Range.{Range}
use Rattle.std.specs.Vec.{with_items}
use Rattle.scratch.specs.Parts.{with_part}
use Rattle.scratch.specs.declared.scratch.Scratch.{Scratch}
use Rattle.scratch.specs.contracts.scratch.Scratch.{the_row}

-- the numbers of scratch memory
abbrev pub numbers_of : Scratch → List ℤ
numbers_of s = s.numbers.items

-- those with w instead of the range
abbrev pub numbers_with : Scratch → Range ℕ → List ℤ → List ℤ
numbers_with s range w = with_part (numbers_of s) range.start range.end w

-- s with these numbers, truncated or padded to as many as it has
abbrev pub with_numbers : Scratch → List ℤ → Scratch
with_numbers s ws = record s { numbers = with_items s.numbers ws }

-- at its end s is as now, with r's last value instead of the range
abbrev pub LendsRange : MutBor Scratch → Range ℕ → MutBor (List ℤ) → Fml
LendsRange s range r = Lends the_row (Array i32 0) s r (λ w. with_numbers s.now (numbers_with s.now range w))
