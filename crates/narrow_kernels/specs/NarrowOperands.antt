-- The operands of an operator along a row of numbers of 16 bits.
use Rattle.std.specs.Prelude.{ℕ, ℤ, ◌≡◌, List, length}
use Rattle.row_loops.specs.Rows.{at}
use Rattle.narrow_kernels.specs.declared.narrow_operand.NarrowOperand.{NarrowOperand}
use Rattle.narrow_kernels.specs.declared.narrow_operand.NarrowOperand.TheVariants.{Line, Number, Written}

-- an operand at place k of a row that holds these numbers
abbrev pub narrow_operand_at : NarrowOperand → List ℤ → ℕ → ℤ
narrow_operand_at (Line line) out k = at line.now k
narrow_operand_at (Number n) out k = n
narrow_operand_at Written out k = at out k

-- the operand serves rows of n places: a line has as many
abbrev pub ServesNarrow : ℕ → NarrowOperand → Type 0
ServesNarrow n (Line line) = length line.now ≡ n
ServesNarrow n (Number m) = Unit {0}
ServesNarrow n Written = Unit {0}

-- the operand is not the row that is written
abbrev pub IsGivenNarrow : NarrowOperand → Type 0
IsGivenNarrow (Line line) = Unit {0}
IsGivenNarrow (Number n) = Unit {0}
IsGivenNarrow Written = ⊥
