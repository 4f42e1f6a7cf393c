-- The entries of tables lie in a range.
use Rattle.std.proofs.Common.{arith, ℕ, ℤ, pos, ◌≡◌, ◌<◌, ◌≤◌, ◌+◌, ◌+ℤ◌, ◌≤ℤ◌, ◌⊎◌, inl, inr, List, length, subst, sym}
use Rattle.std.specs.Int.{int_gap}
use Rattle.std.specs.Prelude.{slice_index_or}
use Rattle.std.proofs.lemmas.Bool.{cases_lt}
use Rattle.std.proofs.lemmas.Int.{ints, clamps}
use Rattle.domains.specs.Arithmetic.{clamped}
use Rattle.domains.proofs.Lengths.{gap_is}
use Rattle.tables.specs.Entries.{Entries, IsEntries}
use Rattle.value_ranges.specs.declared.value_range.ValueRange.{ValueRange}
use Rattle.value_ranges.specs.Ranges.{InRange}

-- one more entry
pub entries_more : (range more : ValueRange) (xs : List ℤ) (i : ℕ) → ((v : ℤ) → InRange range v → InRange more v)
    → InRange more (slice_index_or xs i (pos 0)) → ((b : ℕ) → b < i → InRange range (slice_index_or xs b (pos 0))) → (b : ℕ) → b < i + 1
    → InRange more (slice_index_or xs b (pos 0))
entries_more range more xs i wider here before b less = by_place (cases_lt b i)
  where
    by_place : (b < i) ⊎ (i ≤ b) → InRange more (slice_index_or xs b (pos 0))
    by_place (inl l) = wider _ (before b l)
    by_place (inr m) =
        let same : b ≡ i = omega arith in
        subst (λ (k : ℕ). InRange more (slice_index_or xs k (pos 0))) (sym same) here

-- the place of the entry that an index takes
pub entry_place : (t : Entries) (v : ℤ) → IsEntries t → int_gap t.span.lo (clamped v t.span.lo t.span.hi) < length t.values
entry_place t v is =
    let size = is.shape.size in
    let order = is.shape.indices.ordered in
    let taken = clamped v t.span.lo t.span.hi in
    let last : taken ≤ℤ t.span.hi = omega (arith, ints, clamps) in
    let first : t.span.lo +ℤ pos (int_gap t.span.lo taken) ≡ taken = gap_is t.span.lo taken (omega (arith, ints, clamps, order)) in
    let end : t.span.lo +ℤ pos (int_gap t.span.lo (t.span.hi +ℤ pos 1)) ≡ t.span.hi +ℤ pos 1 =
    gap_is t.span.lo (t.span.hi +ℤ pos 1) (omega (arith, ints, order)) in
    omega (arith, ints, size, first, last, end)
