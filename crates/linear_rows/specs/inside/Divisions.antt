-- Operators that divide.
use Rattle.std.specs.Prelude.{Bool, false, ◌&&◌, nat_lt, ℕ}
use Rattle.operators.specs.declared.operator.LiteralOp.{LiteralOp}
use Rattle.operators.specs.declared.operator.LiteralOp.TheVariants.{Div, Rem, Shl, Shr}

-- a division or a shift to the right, within their limits
abbrev pub is_division : LiteralOp → ℕ → Bool
is_division Div n = nat_lt 0 n && nat_lt n 65536
is_division Shr n = nat_lt n 32
is_division Rem n = false
is_division Shl n = false
