-- Limits of numbers of the text, of tests and of domains.
use Rattle.std.specs.Prelude.{ℕ, ◌^◌, ◌<◌, ◌≤◌, pos, negsuc, ◌≤ℤ◌}
use Rattle.domains.specs.Span.{Ends, IsSpan}
use Rattle.operators.specs.declared.operator.LiteralOp.{LiteralOp}
use Rattle.operators.specs.declared.operator.LiteralOp.TheVariants.{Div, Rem, Shl, Shr}
use Rattle.operators.specs.Tests.{Test, compare, remainder}

-- a divisor or a modulus
abbrev pub IsDivisor : ℕ → Type 0
IsDivisor n = (1 ≤ n) × (n < 2 ^ 31)

abbrev pub IsLiteral : LiteralOp → ℕ → Type 0
IsLiteral Div n = IsDivisor n
IsLiteral Rem n = IsDivisor n
IsLiteral Shl n = n ≤ 31
IsLiteral Shr n = n ≤ 31

abbrev pub IsTest : Test → Type 0
IsTest (compare x relation bound) = Unit {0}
IsTest (remainder x modulus rest) = IsDivisor modulus × (rest < modulus)

-- the ends of a span of a domain
pub record InDomainRange (s : Ends) : Type 0 where
  pub span : IsSpan s
  pub least : negsuc 16383 ≤ℤ s.lo
  pub most : s.hi ≤ℤ pos 16384
