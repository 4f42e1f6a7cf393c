-- The operands of an operator along a row.
use Rattle.std.specs.Prelude.{ℕ, ℤ, ◌≡◌, List, length}
use Rattle.row_loops.specs.Rows.{at}
use Rattle.row_kernels.specs.declared.operand.Operand.{Operand}
use Rattle.row_kernels.specs.declared.operand.Operand.TheVariants.{Line, Number, Written}

-- an operand at place k of a row that holds these numbers
abbrev pub operand_at : Operand → List ℤ → ℕ → ℤ
operand_at (Line line) out k = at line.now k
operand_at (Number n) out k = n
operand_at Written out k = at out k

-- the operand serves rows of n places: a line has as many
abbrev pub Serves : ℕ → Operand → Type 0
Serves n (Line line) = length line.now ≡ n
Serves n (Number m) = Unit {0}
Serves n Written = Unit {0}

-- the operand is not the row that is written
abbrev pub IsGiven : Operand → Type 0
IsGiven (Line line) = Unit {0}
IsGiven (Number n) = Unit {0}
IsGiven Written = ⊥
