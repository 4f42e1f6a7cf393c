-- What a row makes of the rest of a sum at a point.
use Rattle.std.specs.Prelude.{ℕ, ℤ, pos, ◌+ℤ◌, Option, None, Some}
use Rattle.std.specs.Int.{w16, int_wrap}
use Rattle.domains.specs.Arithmetic.{floor_div}
use Rattle.job.specs.Values.{Valuation}
use Rattle.narrow_sums.specs.declared.terms.NarrowSumRead.{NarrowSumRead}
use Rattle.narrow_sums.specs.declared.sum_row.NarrowSumQuotient.{NarrowSumQuotient}
use Rattle.narrow_sums.specs.declared.sum_row.NarrowSumRow.{NarrowSumRow}
use Rattle.narrow_sums.specs.inside.TermValues.{sample_of, terms_value}

abbrev pub number_of : Option ℤ → ℤ
number_of None = pos 0
number_of (Some n) = n

abbrev pub divisor_of : Option NarrowSumQuotient → ℕ
divisor_of None = 1
divisor_of (Some q) = q.divisor

-- the rest, the terms and the number are added, wrapped at 16 bits, and divided
abbrev pub divided_value : Valuation → NarrowSumRow → ℤ → ℤ → ℤ → ℤ
divided_value env row rest r c =
    floor_div (int_wrap w16 (rest +ℤ terms_value env row.terms.items r c +ℤ number_of row.number)) (pos (divisor_of row.quotient))

-- a number is added to the sample of a center, if there is one, wrapped at 16 bits
abbrev pub centered_value : Valuation → Option NarrowSumRead → ℤ → ℤ → ℤ → ℤ
centered_value env None v r c = v
centered_value env (Some x) v r c = int_wrap w16 (v +ℤ sample_of env x r c)

-- all of that
abbrev pub row_value : Valuation → NarrowSumRow → ℤ → ℤ → ℤ → ℤ
row_value env row rest r c = centered_value env row.center (divided_value env row rest r c) r c
