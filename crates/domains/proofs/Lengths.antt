-- How far apart two numbers are, and how many numbers a span has.
use Rattle.std.proofs.Common.{ℤ, pos, negsuc, ◌≡◌, ◌+ℤ◌, ◌≤ℤ◌, arith}
use Rattle.std.specs.Int.{int_gap}
use Rattle.std.proofs.lemmas.Int.{ints}
use Rattle.domains.specs.Span.{Ends, IsSpan, len_of}

pub gap_is : (a b : ℤ) → a ≤ℤ b → a +ℤ pos (int_gap a b) ≡ b
gap_is (pos a) (pos b) h = omega (arith, ints)
gap_is (pos a) (negsuc b) h = absurd h.le
gap_is (negsuc a) (pos b) h = omega (arith, ints)
gap_is (negsuc a) (negsuc b) h = omega (arith, ints)

pub len_is : (s : Ends) → IsSpan s → s.lo +ℤ pos (len_of s) ≡ s.hi +ℤ pos 1
len_is s h = gap_is s.lo (s.hi +ℤ pos 1) (omega (arith, ints))
