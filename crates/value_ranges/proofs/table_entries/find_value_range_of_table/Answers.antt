use Rattle.std.proofs.Common.{arith, ℤ, pos, List, subst}
use Rattle.std.specs.Int.{int_gap}
use Rattle.std.specs.Prelude.{slice_index_or}
use Rattle.std.proofs.lemmas.Int.{to_z-of_z}
use Rattle.domains.specs.Arithmetic.{clamped}
use Rattle.value_ranges.specs.Ranges.{InRange}
use Rattle.value_ranges.proofs.Entries.{entries_more, entry_place}
use Rattle.value_ranges.proofs.table_entries.find_value_range_of_table.Goals as goal

pub loop-value-init : goal.loop-value-init
loop-value-init c = λ b less. absurd (omega (arith, less))

pub loop-value-preserved : goal.loop-value-preserved
loop-value-preserved c =
    let is : InRange c.find_value_range_of_number-entry.result (slice_index_or c.values-entries.result.now c.loop-value.value-index (pos 0)) =
    subst (λ (z : ℤ). InRange c.find_value_range_of_number-entry.result z) (grind (arith, to_z-of_z)) c.find_value_range_of_number-entry.ensures in
    entries_more _ _ c.values-entries.result.now c.loop-value.value-index c.join_value_ranges-range.ensures.first (c.join_value_ranges-range.ensures.second _ is)
    c.loop-value.invariant

pub returns : goal.returns
returns c = λ v.
    let table = c.args.table.now in
    let place = entry_place table v c.values-entries.ensures.within in
    subst (λ (xs : List ℤ). InRange c.loop-value.range (slice_index_or xs (int_gap table.span.lo (clamped v table.span.lo table.span.hi)) (pos 0)))
    c.values-entries.ensures.values (c.loop-value.invariant (int_gap table.span.lo (clamped v table.span.lo table.span.hi)) (grind (arith, place, c.values-entries.ensures.values)))
