-- The ring of the stage whose next row is made, and the row for its ring of the other form.
use Rattle.std.proofs.Common.{arith, ℕ, ℤ, ◌≡◌, ◌<◌, ◌≤◌, Bool, true, false, List, Some, length, slice_get, set, refl, sym, ap, ◌∙◌, subst}
use Rattle.std.specs.Prelude.{if◌then◌else◌, slice_index_or}
use Rattle.std.proofs.lemmas.Option.{same_Some, slice_get_read, slice_get_within}
use Rattle.domains.specs.Span.{Holds, IsSpan, len_of}
use Rattle.domains.specs.declared.area.Area.{Area}
use Rattle.job.specs.Pipeline.{Pipeline}
use Rattle.job.specs.WellFormed.{IsJob}
use Rattle.row_plans.specs.Plans.{CanMake}
use Rattle.row_plans.specs.Rows.{next_row, one_row_more}
use Rattle.row_plans.specs.declared.row_state.RowState.{RowState}
use Rattle.tile_eval.proofs.Rasters.{nth_held}
use Rattle.value_ranges.specs.Narrow.{Fits16}
use Rattle.row_rings.specs.RingForms.{AreRightForms, IsWholeWhereKept, IsFittingWhereKept, IsServed}
use Rattle.row_rings.specs.RingRows.{row_at, ring_states}
use Rattle.row_rings.specs.TrueRings.{HasOwnRoom, HasStageRoom}
use Rattle.row_rings.specs.inside.Converting.{AreWithRow, IsRowFor, IsFittingRowFor}
use Rattle.row_rings.specs.inside.Making.{IsValueRow, HasOneRowMore}
use Rattle.row_rings.specs.declared.ring.RowRing.{RowRing}
use Rattle.row_rings.proofs.Areas.{span_short}
use Rattle.row_rings.proofs.Rooms.{own_more, own_room}
use Rattle.row_rings.proofs.Stages.{state_ring, state_at, ring_state}
use Rattle.row_rings.proofs.Stepping.{with_made}

module _ (job : Pipeline) (states : List RowState) (g : ℕ) (can : CanMake job states g) where
  pub state_within : g < length states
  state_within = slice_get_within states g can.state can.own

  pub state_is : (s : RowState) → s ≡ slice_index_or states g s → s ≡ can.state
  state_is s is = same_Some s can.state (sym (slice_get_read states (length states) g s refl state_within is) ∙ can.own)

  pub few_made : IsJob job → can.state.next < 2097153
  few_made h =
      let left = can.left in
      omega (
        arith,
        left,
        span_short can.state.area.rows
            (subst (λ (a : Area). IsSpan a.rows) (sym can.area) (h.stages g can.stage can.there).rows.span),
      )

  -- ---- the form in which the stage is computed

  module _ (wide narrow : List RowState) (computed : List Bool) (forms : AreRightForms job states wide narrow computed) where
    pub served_narrow : slice_index_or computed g false ≡ true → IsServed job narrow states g
    served_narrow is = subst (λ b. IsServed job (if b then narrow else wide) states g) is (forms g state_within).served

    pub served_wide : slice_index_or computed g false ≡ false → IsServed job wide states g
    served_wide is = subst (λ b. IsServed job (if b then narrow else wide) states g) is (forms g state_within).served

  -- ---- a ring of this form

  module _ (rings : List (RowRing ℤ)) (served : IsServed job (ring_states rings) states g) where
    pub ring_within : g < length rings
    ring_within = let found = state_ring rings g can.state (served.own ∙ can.own) in slice_get_within rings g found.0 found.1

    module _ (ring : RowRing ℤ) (there : slice_get rings g ≡ Some ring) where
      pub same_state : ring.state ≡ can.state
      same_state = ring_state rings g ring can.state there (served.own ∙ can.own)

      pub some_kept : 0 < ring.state.kept
      some_kept = let some = can.some in omega (arith, some, ap (λ (s : RowState). s.kept) same_state)

      pub room_made : (room more : ℕ) → room ≤ more → HasOwnRoom job g room → HasStageRoom job g (len_of ring.state.area.cols) more
      room_made room more enough has =
          own_room job g more can.stage ring.state.area can.there (ap (λ (s : RowState). s.area) same_state ∙ can.area)
          (own_more job g room more enough has)

      module _ (new : RowRing ℤ) (more : HasOneRowMore job g ring new) where
        pub next_is : new.state ≡ one_row_more can.state
        next_is = more.state ∙ ap one_row_more same_state

        pub line_made : (line : List ℤ) → line ≡ row_at new can.state.next → IsValueRow job g can.stage.domain (next_row can.state) line
        line_made line is =
            subst (λ (a : Area). IsValueRow job g a (next_row can.state) line) can.area
            (subst (IsValueRow job g can.state.area (next_row can.state))
            (ap (λ (s : RowState). row_at new s.next) same_state ∙ sym is)
            (subst (λ (s : RowState). IsValueRow job g s.area (next_row s) (row_at new ring.state.next)) same_state more.made))

        pub with_line : (line : List ℤ) → line ≡ row_at new can.state.next → AreWithRow g line rings (set rings g new)
        with_line line is =
            subst (λ (xs : List ℤ). AreWithRow g xs rings (set rings g new)) (ap (λ (s : RowState). row_at new s.next) same_state ∙ sym is)
            (with_made job g rings ring new there more)

  -- ---- a ring of the other form

  module _ (others : List (RowRing ℤ)) (line : List ℤ) (long : length line ≡ len_of can.state.area.cols) where
    pub row_for : IsJob job → IsWholeWhereKept (ring_states others) states g → IsRowFor g line others
    row_for h whole = record {
      few = λ ring there some. let few = few_made h in omega (arith, few, ap (λ (s : RowState). s.next) (same ring there some));
      count = λ ring there some. long ∙ sym (ap (λ (s : RowState). len_of s.area.cols) (same ring there some));
    }
      where
        same : (ring : RowRing ℤ) → slice_get others g ≡ Some ring → 0 < ring.state.kept → ring.state ≡ can.state
        same ring there some = same_Some ring.state can.state (sym (whole ring.state (state_at others g ring there) some) ∙ can.own)

    pub fitting_for : IsValueRow job g can.stage.domain (next_row can.state) line → IsFittingWhereKept job (ring_states others) g
        → IsFittingRowFor g line others
    fitting_for made fits ring there some k l =
        let wide : k < len_of can.stage.domain.cols =
        subst (λ n. k < n) (long ∙ ap (λ (a : Area). len_of a.cols) can.area) l in
        let row : Holds can.stage.domain.rows (next_row can.state) =
        subst (λ (a : Area). Holds a.rows (next_row can.state)) can.area (nth_held can.state.area.rows can.state.next can.left) in
        subst Fits16 (sym (made k wide))
        (fits ring.state (state_at others g ring there) some can.stage can.there can.valued (next_row can.state) _
        (row, nth_held can.stage.domain.cols k wide))
