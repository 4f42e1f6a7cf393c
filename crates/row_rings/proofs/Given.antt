-- A row that is given has the values of its stage.
use Rattle.std.proofs.Common.{arith, ℕ, ℤ, pos, ◌≡◌, ◌+◌, ◌<◌, ◌≤◌, ◌+ℤ◌, List, [], Option, Some, length, map, slice_get}
use Rattle.std.proofs.Common.{sym, ap, ◌∙◌, subst}
use Rattle.std.specs.Prelude.{slice_index_or}
use Rattle.std.specs.Option.{option_map_or}
use Rattle.std.proofs.lemmas.Option.{slice_get_within}
use Rattle.domains.specs.Span.{len_of, numbers_of}
use Rattle.domains.specs.declared.area.Area.{Area}
use Rattle.job.specs.Pipeline.{Stage, Pipeline}
use Rattle.job.specs.Values.{value}
use Rattle.raw_rows.specs.Rows.{row_values}
use Rattle.row_loops.specs.Rows.{at}
use Rattle.row_plans.specs.Plans.{IsOutputKept}
use Rattle.row_plans.specs.Rows.{IsKeptRow}
use Rattle.row_plans.specs.declared.row_state.RowState.{RowState}
use Rattle.tile_eval.proofs.Rasters.{nth_held}
use Rattle.tile_eval.proofs.RowByRow.{line_is}
use Rattle.row_rings.specs.RingForms.{IsWhole}
use Rattle.row_rings.specs.RingRows.{row_at, ring_states}
use Rattle.row_rings.specs.TrueRings.{AreTrueRings}
use Rattle.row_rings.specs.declared.ring.RowRing.{RowRing}
use Rattle.row_rings.proofs.Places.{gap_nth}
use Rattle.row_rings.proofs.Points.{ring_there}
use Rattle.row_rings.proofs.Stages.{state_ring, ring_state, ring_sample}

module _ (job : Pipeline) (states : List RowState) (rings : List (RowRing ℤ)) (y g : ℕ) (out : IsOutputKept job states y g)
    (whole : IsWhole (ring_states rings) states g) (ring : RowRing ℤ) (is : ring ≡ slice_index_or rings g ring) where
  there : slice_get rings g ≡ Some ring
  there =
      let found = state_ring rings g out.state (whole ∙ out.own) in ring_there rings g ring is (slice_get_within rings g found.0 found.1)

  same : ring.state ≡ out.state
  same = ring_state rings g ring out.state there (whole ∙ out.own)

  kept : IsKeptRow ring.state (ring.state.area.rows.lo +ℤ pos y)
  kept = subst (λ (s : RowState). IsKeptRow s (s.area.rows.lo +ℤ pos y)) (sym same) out.kept

  pub row_made : y < ring.state.next
  row_made = let made = kept.made in omega (arith, made, gap_nth ring.state.area.rows.lo y)

  pub row_kept : ring.state.next ≤ y + ring.state.kept
  row_kept = let last = kept.kept in omega (arith, last, gap_nth ring.state.area.rows.lo y)

  pub row_given : AreTrueRings job rings → (line : List ℤ) → line ≡ row_at ring y → length line ≡ len_of ring.state.area.cols
      → line ≡ row_values job y g
  row_given right line numbers long =
      line_is (value job g row) area.cols.lo (len_of area.cols) line long (λ k h.
      ap (λ (xs : List ℤ). at xs k) numbers
      ∙ (λ i. at (row_at ring (sym (gap_nth area.rows.lo y) i)) (sym (gap_nth area.cols.lo k) i))
      ∙ sym (ring_sample (pos 0) rings g ring row (area.cols.lo +ℤ pos k) there)
      ∙ right g row (area.cols.lo +ℤ pos k) (record { ring = ring; there = there; row = kept; column = nth_held area.cols k h }))
      ∙ ap (λ (a : Area). map (value job g (a.rows.lo +ℤ pos y)) (numbers_of a.cols)) (ap (λ (s : RowState). s.area) same ∙ out.area)
      ∙ sym (ap (λ (o : Option Stage). option_map_or (λ s. map (value job g (s.domain.rows.lo +ℤ pos y)) (numbers_of s.domain.cols)) o [])
      out.there)
    where
      area : Area
      area = ring.state.area

      row : ℤ
      row = area.rows.lo +ℤ pos y
