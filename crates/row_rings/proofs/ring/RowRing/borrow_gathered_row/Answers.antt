use Rattle.std.proofs.Common.{rules, arith, ℤ, pos, ◌≡◌, ◌+ℤ◌, w32, FitsSigned, ap, ◌∙◌, sym, subst}
use Rattle.std.specs.Prelude.{slice_index_or}
use Rattle.std.specs.Int.{int_gap}
use Rattle.std.proofs.Math.IntN.{+ℤ_idr}
use Rattle.std.proofs.lemmas.Int.{to_z-of_z}
use Rattle.domains.specs.Index.{index_at}
use Rattle.domains.specs.Span.{Holds}
use Rattle.row_kernels.proofs.Columns.{column_is}
use Rattle.row_kernels.proofs.Places.{gap_below}
use Rattle.row_rings.specs.RingRows.{number_at}
use Rattle.row_rings.proofs.Places.{gathered_place}
use Rattle.row_rings.proofs.ring.RowRing.borrow_gathered_row.Goals as goal

pub count_ring_steps-from-requires : goal.count_ring_steps-from-requires
count_ring_steps-from-requires g c =
    let x = c.args.col.now in
    let cols = c.args.self.now.state.area.cols in
    let from : FitsSigned w32 c.args.points.now.col = search rules in
    let col : FitsSigned w32 c.at.result = search rules in
    subst (Holds cols) (sym (column_is x c.args.points.now.col c.at.result from col c.at.ensures.value))
    (subst (λ (z : ℤ). Holds cols (index_at x z)) (+ℤ_idr c.args.points.now.col) (c.requires.columns 0 c.requires.some))

pub returns : goal.returns
returns g c =
    let x = c.args.col.now in
    let cols = c.args.self.now.state.area.cols in
    let from : FitsSigned w32 c.args.points.now.col = search rules in
    let col : FitsSigned w32 c.at.result = search rules in
    let place : c.count_ring_steps-from.result ≡ int_gap cols.lo (index_at x c.args.points.now.col) =
    c.count_ring_steps-from.ensures.number
    ∙ ap (int_gap cols.lo) (column_is x c.args.points.now.col c.at.result from col c.at.ensures.value) in
    let goes = gathered_place cols x c.args.points.now.col c.args.points.now.len _ c.at.ensures.within place c.requires.columns in record {
      there = λ k h.
          let below = gap_below cols (index_at x (c.args.points.now.col +ℤ pos k)) (c.requires.columns k h) in
          omega (arith, goes k h, below, c.borrow_row_of_number-line.ensures.count);
      values = λ d k h.
          ap (λ p. slice_index_or c.borrow_row_of_number-line.result.now p d) (goes k h)
          ∙ ap (λ xs. slice_index_or xs (int_gap cols.lo (index_at x (c.args.points.now.col +ℤ pos k))) d)
          c.borrow_row_of_number-line.ensures.numbers
          ∙ (λ i. number_at d c.args.self.now (to_z-of_z w32 c.args.row c.ranges.row i) (index_at x (c.args.points.now.col +ℤ pos k)));
    }
