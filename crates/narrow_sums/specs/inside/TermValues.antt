-- What the terms of a sum are at a point.
use Rattle.std.specs.Prelude.{ℤ, pos, ◌+ℤ◌, ◌-ℤ◌, ◌*ℤ◌, List, [], ◌∷◌}
use Rattle.std.specs.Int.{w16, int_wrap}
use Rattle.domains.specs.Arithmetic.{clamped}
use Rattle.domains.specs.Index.{index_at}
use Rattle.job.specs.Values.{Valuation}
use Rattle.narrow_sums.specs.declared.terms.NarrowSumRead.{NarrowSumRead}
use Rattle.narrow_sums.specs.declared.terms.NarrowSumPart.{NarrowSumPart}
use Rattle.narrow_sums.specs.declared.terms.NarrowSumPart.TheVariants.{Read, Difference}
use Rattle.narrow_sums.specs.declared.terms.NarrowSumTerm.{NarrowSumTerm}

-- the sample that a read takes at the point of row r and column c
abbrev pub sample_of : Valuation → NarrowSumRead → ℤ → ℤ → ℤ
sample_of env x r c = env x.stage (index_at x.row r) (index_at x.col c)

-- what a weight multiplies there
abbrev pub part_value : Valuation → NarrowSumPart → ℤ → ℤ → ℤ
part_value env (Read x) r c = sample_of env x r c
part_value env (Difference d) r c = clamped (int_wrap w16 (sample_of env d.left r c -ℤ sample_of env d.right r c)) d.low d.high

-- what a term adds there
abbrev pub term_value : Valuation → NarrowSumTerm → ℤ → ℤ → ℤ
term_value env t r c = t.weight *ℤ part_value env t.part r c

-- and the terms of a list
abbrev pub terms_value : Valuation → List NarrowSumTerm → ℤ → ℤ → ℤ
terms_value env [] r c = pos 0
terms_value env (t ∷ ts) r c = term_value env t r c +ℤ terms_value env ts r c
