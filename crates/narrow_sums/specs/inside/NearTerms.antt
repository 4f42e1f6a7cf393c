-- Terms that are all differences from one read, with the same bounds.
use Rattle.std.specs.Prelude.{ℕ, ℤ, pos, ◌≡◌, ◌≤ℤ◌, ◌+ℤ◌, ◌-ℤ◌, List, All}
use Rattle.std.specs.Int.{w16, int_wrap}
use Rattle.domains.specs.Arithmetic.{clamped}
use Rattle.job.specs.Values.{Valuation}
use Rattle.row_loops.specs.Rows.{EachPlace, at}
use Rattle.value_ranges.specs.Narrow.{Fits16}
use Rattle.narrow_kernels.specs.declared.narrow_centers.NarrowCenter.{NarrowCenter}
use Rattle.narrow_sums.specs.declared.terms.NarrowSumRead.{NarrowSumRead}
use Rattle.narrow_sums.specs.declared.terms.NarrowSumBounds.{NarrowSumBounds}
use Rattle.narrow_sums.specs.declared.terms.NarrowSumPart.{NarrowSumPart}
use Rattle.narrow_sums.specs.declared.terms.NarrowSumPart.TheVariants.{Read, Difference}
use Rattle.narrow_sums.specs.declared.terms.NarrowSumTerm.{NarrowSumTerm}
use Rattle.narrow_sums.specs.inside.TermValues.{sample_of, part_value}

-- how far the left read of a difference lies above the right one at a point
abbrev pub gap : Valuation → NarrowSumPart → ℤ → ℤ → ℤ
gap env (Read x) r c = pos 0
gap env (Difference d) r c = sample_of env d.left r c -ℤ sample_of env d.right r c

-- the left read
abbrev pub near_read : NarrowSumPart → NarrowSumRead
near_read (Read x) = x
near_read (Difference d) = d.left

-- a part is a difference from a center, with these bounds
abbrev pub IsNear : NarrowSumRead → NarrowSumBounds → NarrowSumPart → Type 0
IsNear center bounds part =
    (env : Valuation) (r c : ℤ)
    → (gap env part r c ≡ sample_of env (near_read part) r c -ℤ sample_of env center r c)
    × (part_value env part r c ≡ clamped (int_wrap w16 (gap env part r c)) bounds.low bounds.high)

-- and so are those of all terms, and 0 lies between the bounds
abbrev pub AreNear : NarrowSumRead → NarrowSumBounds → List NarrowSumTerm → Type 0
AreNear center bounds ts = (bounds.low ≤ℤ pos 0) × (pos 0 ≤ℤ bounds.high) × All (λ t. IsNear center bounds t.part) ts

-- a line has the samples of a center at n points of row r from column c on, and its bounds
pub record HasCenter (env : Valuation) (r c : ℤ) (n : ℕ) (own : NarrowSumRead) (bounds : NarrowSumBounds) (center : NarrowCenter) : Type 0 where
  pub line : EachPlace n (λ k. at center.line.now k ≡ sample_of env own r (c +ℤ pos k))
  pub low : center.low ≡ bounds.low
  pub high : center.high ≡ bounds.high

-- the differences fit along the points before they are clamped
abbrev pub AreGapsFitting : Valuation → ℤ → ℤ → ℕ → List NarrowSumTerm → Type 0
AreGapsFitting env r c n ts = EachPlace n (λ k. All (λ t. Fits16 (gap env t.part r (c +ℤ pos k))) ts)

-- all of that along the points
pub record IsNearSum (env : Valuation) (r c : ℤ) (n : ℕ) (own : NarrowSumRead) (bounds : NarrowSumBounds) (center : NarrowCenter)
    (ts : List NarrowSumTerm) : Type 0 where
  pub line : HasCenter env r c n own bounds center
  pub near : AreNear own bounds ts
  pub gaps : AreGapsFitting env r c n ts
