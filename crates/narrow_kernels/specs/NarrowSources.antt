-- Operands by the place and by the number that is in the row there.
use Rattle.std.specs.Prelude.{ℕ, ℤ, ◌<◌, length}
use Rattle.row_loops.specs.Rows.{at}
use Rattle.narrow_kernels.specs.declared.narrow_operand.NarrowOperand.{NarrowOperand}
use Rattle.narrow_kernels.specs.declared.narrow_operand.NarrowOperand.TheVariants.{Line, Number, Written}

-- the operand has a number at place k
abbrev pub HasNarrowNumber : NarrowOperand → ℕ → Type 0
HasNarrowNumber (Line line) k = k < length line.now
HasNarrowNumber (Number n) k = Unit {0}
HasNarrowNumber Written k = Unit {0}

-- and the number, where the row has another one there
abbrev pub narrow_source_number : NarrowOperand → ℤ → ℕ → ℤ
narrow_source_number (Line line) own k = at line.now k
narrow_source_number (Number n) own k = n
narrow_source_number Written own k = own
