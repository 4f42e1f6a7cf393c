use Rattle.std.proofs.Common.{rules, arith, pos, ◌≡◌, ◌≤ℤ◌, ◌+ℤ◌, w32, ap, ◌∙◌, subst}
use Rattle.std.specs.Prelude.{slice_index_or}
use Rattle.std.specs.Int.{int_gap}
use Rattle.std.proofs.Math.IntN.{+ℤ_idr}
use Rattle.std.proofs.lemmas.Int.{ints, to_z-of_z}
use Rattle.domains.specs.Span.{Holds}
use Rattle.row_rings.specs.RingRows.{number_at}
use Rattle.row_rings.proofs.Places.{part_is}
use Rattle.row_rings.proofs.ring.RowRing.slice_kept_row.Goals as goal

pub count_ring_steps-from-requires : goal.count_ring_steps-from-requires
count_ring_steps-from-requires g c =
    rw (to_z-of_z w32 c.args.first c.ranges.first)
    (subst (Holds c.args.self.now.state.area.cols) (+ℤ_idr c.args.first) (c.requires.columns 0 c.requires.some))

pub returns-clause-values : goal.returns-clause-values
returns-clause-values g c = λ d k h.
    let low = c.args.self.now.state.area.cols.lo in
    let first = (c.requires.columns 0 c.requires.some).0 in
    let below : low ≤ℤ c.args.first = omega (arith, ints, first) in
    let from : c.count_ring_steps-from.result ≡ int_gap low c.args.first = search rules in
    part_is d c.borrow_row_of_number-line.result.now low c.args.first c.count_ring_steps-from.result c.args.count k below from h
    ∙ ap (λ xs. slice_index_or xs (int_gap low (c.args.first +ℤ pos k)) d) c.borrow_row_of_number-line.ensures.numbers
    ∙ (λ i. number_at d c.args.self.now (to_z-of_z w32 c.args.row c.ranges.row i) (c.args.first +ℤ pos k))
