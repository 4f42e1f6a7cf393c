-- The numbers of a span, part by part.
use Rattle.std.proofs.Common.{arith, ℕ, zero, suc, ◌≡◌, ◌+◌, ◌-◌, ◌*◌, ◌<◌, ◌≤◌, ◌⊎◌, inl, inr, ℤ, pos, ◌+ℤ◌, List, ◌∷◌}
use Rattle.std.proofs.Common.{◌++◌, ap, sym, ◌∙◌}
use Rattle.std.specs.List.{flat_map, range_with_len}
use Rattle.std.proofs.lemmas.Bool.{cases_lt}
use Rattle.std.proofs.lemmas.Int.{ints, clamps}
use Rattle.domains.specs.Span.{Ends, IsSpan, len_of, numbers_from, numbers_of}
use Rattle.domains.specs.Tiles.{part_of, part_count}
use Rattle.domains.proofs.Lengths.{len_is}
use Rattle.domains.proofs.PartsOfSpans.{part_fits, starts_in}

pub numbers-append : (v : ℤ) (m n : ℕ) → numbers_from v (m + n) ≡ numbers_from v m ++ numbers_from (v +ℤ pos m) n
numbers-append v zero n =
    let count : 0 + n ≡ n = omega arith in
    let first : v ≡ v +ℤ pos 0 = omega (arith, ints) in
    ap (numbers_from v) count ∙ ap (λ (z : ℤ). numbers_from z n) first
numbers-append v (suc m) n =
    let count : suc m + n ≡ suc (m + n) = omega arith in
    let first : v +ℤ pos 1 +ℤ pos m ≡ v +ℤ pos (suc m) = omega (arith, ints) in
    ap (numbers_from v) count
    ∙ ap (λ (zs : List ℤ). v ∷ zs) (numbers-append (v +ℤ pos 1) m n)
    ∙ ap (λ (z : ℤ). v ∷ (numbers_from (v +ℤ pos 1) m ++ numbers_from z n)) first

-- how many of n numbers are left behind i parts
abbrev pub left_behind : ℕ → ℕ → ℕ → ℕ
left_behind n side i = n - i * side

module _ (s : Ends) (side : ℕ) (is : IsSpan s) (some : 1 ≤ side) where
  -- behind the last part nothing is left
  pub none_left : (i : ℕ) → part_count s side ≤ i → left_behind (len_of s) side i ≡ 0
  none_left i h = by (cases_lt (i * side) (len_of s))
    where
      by : (i * side < len_of s) ⊎ (len_of s ≤ i * side) → left_behind (len_of s) side i ≡ 0
      by (inl less) = let more : i < part_count s side = starts_in (len_of s) side i some less in absurd (omega arith)
      by (inr most) = omega arith

  -- a part, and what is left behind it
  pub part_and_rest : (i : ℕ) → i < part_count s side
      → numbers_from (s.lo +ℤ pos (i * side)) (left_behind (len_of s) side i)
      ≡ numbers_of (part_of s side i) ++ numbers_from (s.lo +ℤ pos ((i + 1) * side)) (left_behind (len_of s) side (i + 1))
  part_and_rest i h = by (cases_lt ((i + 1) * side) (len_of s))
    where
      first : ℤ
      first = s.lo +ℤ pos (i * side)

      long : ℕ
      long = len_of (part_of s side i)

      wide : (i + 1) * side ≡ i * side + side
      wide = omega arith

      ends : first +ℤ pos long ≡ (part_of s side i).hi +ℤ pos 1
      ends = len_is (part_of s side i) (part_fits s side i is some h)

      whole : s.lo +ℤ pos (len_of s) ≡ s.hi +ℤ pos 1
      whole = len_is s is

      joined_up : (rest : ℕ) (z : ℤ) → left_behind (len_of s) side i ≡ long + rest
          → numbers_from (first +ℤ pos long) rest ≡ numbers_from z rest
          → numbers_from first (left_behind (len_of s) side i) ≡ numbers_of (part_of s side i) ++ numbers_from z rest
      joined_up rest z count same =
          ap (numbers_from first) count ∙ numbers-append first long rest ∙ ap (λ (zs : List ℤ). numbers_of (part_of s side i) ++ zs) same

      by : ((i + 1) * side < len_of s) ⊎ (len_of s ≤ (i + 1) * side)
          → numbers_from first (left_behind (len_of s) side i)
          ≡ numbers_of (part_of s side i) ++ numbers_from (s.lo +ℤ pos ((i + 1) * side)) (left_behind (len_of s) side (i + 1))
      by (inl less) =
          let full : long ≡ side = omega (arith, ints, clamps, wide, ends, whole) in
          let next : first +ℤ pos long ≡ s.lo +ℤ pos ((i + 1) * side) = omega (arith, ints, wide, full) in
          joined_up (left_behind (len_of s) side (i + 1)) (s.lo +ℤ pos ((i + 1) * side)) (omega (arith, wide, full))
          (ap (λ (z : ℤ). numbers_from z (left_behind (len_of s) side (i + 1))) next)
      by (inr most) =
          let none : left_behind (len_of s) side (i + 1) ≡ 0 = omega arith in
          let full : long ≡ left_behind (len_of s) side i = omega (arith, ints, clamps, wide, ends, whole) in
          joined_up (left_behind (len_of s) side (i + 1)) (s.lo +ℤ pos ((i + 1) * side)) (omega (arith, none, full))
          (ap (numbers_from (first +ℤ pos long)) none ∙ sym (ap (numbers_from (s.lo +ℤ pos ((i + 1) * side))) none))

  parts_from : (i m : ℕ) → i + m ≡ part_count s side
      → flat_map (λ k. numbers_of (part_of s side k)) (range_with_len i m)
      ≡ numbers_from (s.lo +ℤ pos (i * side)) (left_behind (len_of s) side i)
  parts_from i zero h = sym (ap (numbers_from (s.lo +ℤ pos (i * side))) (none_left i (omega arith)))
  parts_from i (suc m) h =
      ap (λ (zs : List ℤ). numbers_of (part_of s side i) ++ zs) (parts_from (i + 1) m (omega arith))
      ∙ sym (part_and_rest i (omega arith))

  -- the numbers of the parts, one behind the other, are those of the span
  pub parts_are_all : flat_map (λ k. numbers_of (part_of s side k)) (range_with_len 0 (part_count s side)) ≡ numbers_of s
  parts_are_all =
      let first : s.lo +ℤ pos (0 * side) ≡ s.lo = omega (arith, ints) in
      let count : left_behind (len_of s) side 0 ≡ len_of s = omega arith in
      parts_from 0 (part_count s side) (omega arith) ∙ (λ i. numbers_from (first i) (count i))
