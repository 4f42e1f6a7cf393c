-- Formulas whose values are computed in 16 bits, along a row of points.
use Rattle.std.specs.Prelude.{ℕ, ℤ, pos, ◌+ℤ◌}
use Rattle.job.specs.Formula.{Formula, number, coordinate, read, unary, binary, ternary, literal, lookup, select, stencil}
use Rattle.job.specs.Values.{Valuation, formula_value}
use Rattle.row_loops.specs.Rows.{EachPlace}
use Rattle.value_ranges.specs.Narrow.{Fits16, IsNarrowStencil}

-- at n points of row r from column c on the value of a formula fits in 16 bits
abbrev pub FitsWithin : Valuation → Formula → ℤ → ℤ → ℕ → Type 0
FitsWithin env f r c n = EachPlace n (λ k. Fits16 (formula_value env f r (c +ℤ pos k)))

-- and so does that of each formula in it
abbrev pub NarrowWithin : Valuation → Formula → ℤ → ℤ → ℕ → Type 0
NarrowWithin env (number m) r c n = FitsWithin env (number m) r c n
NarrowWithin env (coordinate x) r c n = EachPlace n (λ k. ⊥)
NarrowWithin env (read g i j) r c n = FitsWithin env (read g i j) r c n
NarrowWithin env (unary op a) r c n = NarrowWithin env a r c n × FitsWithin env (unary op a) r c n
NarrowWithin env (binary op a b) r c n = NarrowWithin env a r c n × NarrowWithin env b r c n × FitsWithin env (binary op a b) r c n
NarrowWithin env (ternary op a b d) r c n =
    NarrowWithin env a r c n × NarrowWithin env b r c n × NarrowWithin env d r c n × FitsWithin env (ternary op a b d) r c n
NarrowWithin env (literal op a m) r c n = NarrowWithin env a r c n × FitsWithin env (literal op a m) r c n
NarrowWithin env (lookup t a) r c n = EachPlace n (λ k. ⊥)
NarrowWithin env (select a relation b first second) r c n =
    NarrowWithin env a r c n × NarrowWithin env b r c n × NarrowWithin env first r c n × NarrowWithin env second r c n
NarrowWithin env (stencil g divisor kernel) r c n = EachPlace n (λ k. IsNarrowStencil (env g) divisor kernel r (c +ℤ pos k))
