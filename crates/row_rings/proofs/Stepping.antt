-- Rings once a line is the next row of a stage.
use Rattle.std.proofs.Common.{arith, ℕ, ℤ, pos, ◌≡◌, ◌≢◌, ◌<◌, ◌≤◌, ◌+ℤ◌, ◌⊎◌, inl, inr, Bool, true, false, List, Option, Some, None, length, set, slice_get}
use Rattle.std.proofs.Common.{refl, sym, ap, ◌∙◌, subst}
use Rattle.std.specs.Prelude.{if◌then◌else◌}
use Rattle.std.specs.Int.{int_gap}
use Rattle.std.specs.Option.{option_map, option_map_or}
use Rattle.std.proofs.lemmas.Bool.{cases_eq, cases_lt}
use Rattle.std.proofs.lemmas.List.{length-set}
use Rattle.std.proofs.lemmas.List.Elements.{All-weaker}
use Rattle.std.proofs.lemmas.Option.{none-some, same_Some, slice_get-map, slice_get_within}
use Rattle.domains.proofs.Lengths.{gap_is}
use Rattle.domains.proofs.Places.{slice_get-set_same, slice_get-set_other}
use Rattle.domains.specs.Span.{Holds}
use Rattle.domains.specs.declared.area.Area.{Area}
use Rattle.job.specs.Pipeline.{Stage, Pipeline}
use Rattle.job.specs.Reads.{Read, reads_of, stage_read}
use Rattle.job.specs.Values.{value}
use Rattle.row_kernels.proofs.Places.{gap_below}
use Rattle.row_loops.specs.Rows.{at}
use Rattle.row_plans.specs.Plans.{CanMake, states_after}
use Rattle.row_plans.specs.Rows.{IsKeptRow, next_row, one_row_more}
use Rattle.row_plans.specs.declared.row_state.RowState.{RowState}
use Rattle.row_rings.specs.RingForms.{IsWhole, IsWholeWhereKept, IsFittingWhereKept, IsServed, AreRightForms}
use Rattle.row_rings.specs.RingRows.{row_at, number_at, sample_in, ring_states}
use Rattle.row_rings.specs.TrueRings.{AreTrueRings, ArePlacedRings}
use Rattle.row_rings.specs.inside.Converting.{HasRowMore, AreWithRow}
use Rattle.row_rings.specs.inside.Making.{IsValueRow, HasOneRowMore}
use Rattle.row_rings.specs.declared.ring.RowRing.{RowRing}
use Rattle.row_rings.proofs.Stages.{state_of, state_ring, state_at, ring_sample}

-- ---- states

module _ (job : Pipeline) (states : List RowState) (g : ℕ) (can : CanMake job states g) where
  pub states_made : states_after states g ≡ set states g (one_row_more can.state)
  states_made = ap (λ (o : Option RowState). option_map_or (λ s. set states g (one_row_more s)) o states) can.own

  after_here : slice_get (states_after states g) g ≡ Some (one_row_more can.state)
  after_here =
      ap (λ (xs : List RowState). slice_get xs g) states_made
      ∙ slice_get-set_same states g (one_row_more can.state) (slice_get_within states g can.state can.own)

  after_other : (h : ℕ) → h ≢ g → slice_get (states_after states g) h ≡ slice_get states h
  after_other h ne =
      ap (λ (xs : List RowState). slice_get xs h) states_made ∙ slice_get-set_other states g h (one_row_more can.state) ne

  after_len : length (states_after states g) ≡ length states
  after_len = ap length states_made ∙ length-set states g (one_row_more can.state)

-- ---- rings of one form

-- a ring of stage h is another one, or it stays, or it has one row more
abbrev IsOfOld : ℕ → List ℤ → List (RowRing ℤ) → ℕ → RowRing ℤ → Type 0
IsOfOld g line old h other =
    ((h ≢ g) × (slice_get old h ≡ Some other))
    ⊎ ((h ≡ g) × ((ring : RowRing ℤ) × (slice_get old g ≡ Some ring)
    × (((ring.state.kept ≡ 0) × (other ≡ ring)) ⊎ HasRowMore line ring other)))

module _ (job : Pipeline) (states : List RowState) (g : ℕ) (can : CanMake job states g) (line : List ℤ) (old new : List (RowRing ℤ))
    (with : AreWithRow g line old new) where
  of_old : (h : ℕ) (other : RowRing ℤ) → slice_get new h ≡ Some other → IsOfOld g line old h other
  of_old h other found = by (cases_eq h g)
    where
      own : h ≡ g → (o : Option (RowRing ℤ)) → slice_get old g ≡ o → (ring : RowRing ℤ) × (slice_get old g ≡ Some ring)
          × (((ring.state.kept ≡ 0) × (other ≡ ring)) ⊎ HasRowMore line ring other)
      own e None is = absurd (none-some other (sym (with.none is) ∙ ap (slice_get new) (sym e) ∙ found))
      own e (Some ring) is =
          let to = with.own ring is in
          let same : to.0 ≡ other = same_Some to.0 other (sym to.1 ∙ ap (slice_get new) (sym e) ∙ found) in
          (ring, is, subst (λ (a : RowRing ℤ). ((ring.state.kept ≡ 0) × (a ≡ ring)) ⊎ HasRowMore line ring a) same to.2)

      by : (h ≡ g) ⊎ (h ≡ g → ⊥) → IsOfOld g line old h other
      by (inl e) = inr (e, own e (slice_get old g) refl)
      by (inr ne) = inl (ne, sym (with.others h ne) ∙ found)

  -- the state of a ring that was there before keeps as many rows
  before : (h : ℕ) (s : RowState) → slice_get (ring_states new) h ≡ Some s
      → (t : RowState) × (slice_get (ring_states old) h ≡ Some t) × (t.kept ≡ s.kept)
  before h s is = let found = state_ring new h s is in by found (of_old h found.0 found.1)
    where
      by : (found : (ring : RowRing ℤ) × (slice_get new h ≡ Some ring) × (ring.state ≡ s)) → IsOfOld g line old h found.0
          → (t : RowState) × (slice_get (ring_states old) h ≡ Some t) × (t.kept ≡ s.kept)
      by found (inl e) = (found.0.state, state_at old h found.0 e.1, ap (λ (t : RowState). t.kept) found.2)
      by found (inr e) =
          (e.1.0.state, state_at old h e.1.0 (ap (slice_get old) e.0 ∙ e.1.1), kept e.1.2 ∙ ap (λ (t : RowState). t.kept) found.2)
        where
          kept : ((e.1.0.state.kept ≡ 0) × (found.0 ≡ e.1.0)) ⊎ HasRowMore line e.1.0 found.0 → e.1.0.state.kept ≡ found.0.state.kept
          kept (inl stays) = ap (λ (a : RowRing ℤ). a.state.kept) (sym stays.1)
          kept (inr more) = ap (λ (t : RowState). t.kept) (sym more.state)

  whole_more : (h : ℕ) → IsWhole (ring_states old) states h → IsWhole (ring_states new) (states_after states g) h
  whole_more h whole = by (cases_eq h g)
    where
      own : h ≡ g → slice_get (ring_states new) g ≡ Some (one_row_more can.state)
      own e =
          let found = state_ring old g can.state (ap (slice_get (ring_states old)) (sym e) ∙ whole ∙ ap (slice_get states) e ∙ can.own) in
          let to = with.own found.0 found.1 in
          state_at new g to.0 to.1 ∙ ap Some (more found to.0 to.2)
        where
          more : (found : (ring : RowRing ℤ) × (slice_get old g ≡ Some ring) × (ring.state ≡ can.state)) (next : RowRing ℤ)
              → ((found.0.state.kept ≡ 0) × (next ≡ found.0)) ⊎ HasRowMore line found.0 next → next.state ≡ one_row_more can.state
          more found next (inl none) =
              let some = can.some in absurd (omega (arith, some, none.0, ap (λ (t : RowState). t.kept) found.2))
          more found next (inr is) = is.state ∙ ap one_row_more found.2

      by : (h ≡ g) ⊎ (h ≡ g → ⊥) → slice_get (ring_states new) h ≡ slice_get (states_after states g) h
      by (inl e) =
          ap (slice_get (ring_states new)) e ∙ own e ∙ sym (after_here job states g can)
          ∙ ap (slice_get (states_after states g)) (sym e)
      by (inr ne) =
          slice_get-map state_of new h ∙ ap (option_map state_of) (with.others h ne) ∙ sym (slice_get-map state_of old h) ∙ whole
          ∙ sym (after_other job states g can h ne)

  -- the same of lists that are these
  pub whole_made : (now : List RowState) → now ≡ states_after states g → (rings : List (RowRing ℤ)) → rings ≡ new → (h : ℕ)
      → IsWhole (ring_states old) states h → IsWhole (ring_states rings) now h
  whole_made now is rings same h whole =
      subst (λ (xs : List RowState). IsWhole (ring_states rings) xs h) (sym is)
      (subst (λ (xs : List (RowRing ℤ)). IsWhole (ring_states xs) (states_after states g) h) (sym same) (whole_more h whole))

  whole_where_more : (h : ℕ) → IsWholeWhereKept (ring_states old) states h
      → IsWholeWhereKept (ring_states new) (states_after states g) h
  whole_where_more h whole s is some =
      let was = before h s is in
      sym (whole_more h (was.1 ∙ sym (whole was.0 was.1 (omega (arith, some, was.2))))) ∙ is

  fitting_more : (h : ℕ) → IsFittingWhereKept job (ring_states old) h → IsFittingWhereKept job (ring_states new) h
  fitting_more h fits s is some = let was = before h s is in fits was.0 was.1 (omega (arith, some, was.2))

  served_more : (h : ℕ) → IsServed job (ring_states old) states h → IsServed job (ring_states new) (states_after states g) h
  served_more h served = record {
    own = whole_more h served.own;
    reads = λ s there valued.
        All-weaker (λ (x : Read). IsWhole (ring_states old) states (stage_read x))
        (λ (x : Read). IsWhole (ring_states new) (states_after states g) (stage_read x)) (λ x. whole_more (stage_read x)) (reads_of s.body)
        (served.reads s there valued);
  }

  -- ---- what is kept

  module _ (whole : IsWholeWhereKept (ring_states old) states g) where
    own_state : (ring : RowRing ℤ) → slice_get old g ≡ Some ring → 0 < ring.state.kept → ring.state ≡ can.state
    own_state ring there some =
        same_Some ring.state can.state (sym (whole ring.state (state_at old g ring there) some) ∙ can.own)

    -- the rows that are kept have the values of the stage
    new_value : AreTrueRings job old → IsValueRow job g can.stage.domain (next_row can.state) line
        → (ring next : RowRing ℤ) → slice_get old g ≡ Some ring → HasRowMore line ring next → (r c : ℤ)
        → IsKeptRow (one_row_more ring.state) r → Holds ring.state.area.cols c
        → at (row_at next (int_gap ring.state.area.rows.lo r)) (int_gap ring.state.area.cols.lo c) ≡ value job g r c
    new_value right made ring next there more r c row column = by (cases_lt y ring.state.next)
      where
        y : ℕ
        y = int_gap ring.state.area.rows.lo r

        x : ℕ
        x = int_gap ring.state.area.cols.lo c

        same : ring.state ≡ can.state
        same = own_state ring there (let made = row.made in let kept = row.kept in omega arith)

        line_is : IsValueRow job g ring.state.area (next_row ring.state) line
        line_is =
            subst (λ (s : RowState). IsValueRow job g s.area (next_row s) line) (sym same)
            (subst (λ (a : Area). IsValueRow job g a (next_row can.state) line) (sym can.area) made)

        by : (y < ring.state.next) ⊎ (ring.state.next ≤ y) → at (row_at next y) x ≡ value job g r c
        by (inl before) =
            let made = row.made in let kept = row.kept in
            ap (λ (xs : List ℤ). at xs x) (more.older y before (omega arith))
            ∙ sym (ring_sample (pos 0) old g ring r c there)
            ∙ right g r c (record {
              ring = ring;
              there = there;
              row = record { within = row.within; begun = row.begun; made = before; kept = omega arith };
              column = column;
            })
        by (inr last) =
            let made = row.made in
            let next_is : y ≡ ring.state.next = omega arith in
            ap (λ n. at (row_at next n) x) next_is
            ∙ more.made x (gap_below ring.state.area.cols c column)
            ∙ line_is x (gap_below ring.state.area.cols c column)
            ∙ (λ i. value job g (ring.state.area.rows.lo +ℤ pos (sym next_is i)) (gap_is ring.state.area.cols.lo c column.0 i))
            ∙ ap (λ q. value job g q c) (gap_is ring.state.area.rows.lo r row.within.0)

    pub true_more : AreTrueRings job old → IsValueRow job g can.stage.domain (next_row can.state) line → AreTrueRings job new
    true_more right made h r c k = by (of_old h k.ring k.there)
      where
        own : (ring : RowRing ℤ) → slice_get old g ≡ Some ring → ((ring.state.kept ≡ 0) × (k.ring ≡ ring)) ⊎ HasRowMore line ring k.ring
            → number_at (pos 0) k.ring r c ≡ value job g r c
        own ring there (inl stays) =
            let row = k.row in let made = row.made in let kept = row.kept in
            absurd (omega (arith, made, kept, stays.0, ap (λ (a : RowRing ℤ). a.state.kept) stays.1))
        own ring there (inr more) =
            ap (λ (s : RowState). at (row_at k.ring (int_gap s.area.rows.lo r)) (int_gap s.area.cols.lo c)) more.state
            ∙ new_value right made ring k.ring there more r c (subst (λ (s : RowState). IsKeptRow s r) more.state k.row)
            (subst (λ (s : RowState). Holds s.area.cols c) more.state k.column)

        by : IsOfOld g line old h k.ring → sample_in new h r c ≡ value job h r c
        by (inl e) =
            ring_sample (pos 0) new h k.ring r c k.there ∙ sym (ring_sample (pos 0) old h k.ring r c e.1)
            ∙ right h r c (record { ring = k.ring; there = e.1; row = k.row; column = k.column })
        by (inr e) =
            ring_sample (pos 0) new h k.ring r c k.there ∙ own e.1.0 e.1.1 e.1.2 ∙ ap (λ n. value job n r c) (sym e.0)

    pub placed_more : ArePlacedRings job old → ArePlacedRings job new
    placed_more placed h other s r found stage row = by (of_old h other found)
      where
        own : (ring : RowRing ℤ) → slice_get old g ≡ Some ring → ((ring.state.kept ≡ 0) × (other ≡ ring)) ⊎ HasRowMore line ring other
            → other.state.area ≡ can.stage.domain
        own ring there (inl stays) =
            let made = row.made in let kept = row.kept in
            absurd (omega (arith, made, kept, stays.0, ap (λ (a : RowRing ℤ). a.state.kept) stays.1))
        own ring there (inr more) =
            let made = row.made in let kept = row.kept in
            ap (λ (t : RowState). t.area) (more.state
            ∙ ap one_row_more (own_state ring there (omega (arith, made, kept, ap (λ (t : RowState). t.kept) more.state))))
            ∙ can.area

        by : IsOfOld g line old h other → other.state.area ≡ s.domain
        by (inl e) = placed h other s r e.1 stage row
        by (inr e) =
            own e.1.0 e.1.1 e.1.2
            ∙ ap (λ (q : Stage). q.domain) (same_Some can.stage s (sym can.there ∙ ap (slice_get job.stages) (sym e.0) ∙ stage))

-- ---- rings of both forms

module _ (job : Pipeline) (states : List RowState) (g : ℕ) (can : CanMake job states g) (line : List ℤ)
    (wide new_wide narrow new_narrow : List (RowRing ℤ)) (with : AreWithRow g line wide new_wide)
    (with_narrow : AreWithRow g line narrow new_narrow) where
  served_both : (flag : Bool) (h : ℕ) → IsServed job (if flag then ring_states narrow else ring_states wide) states h
      → IsServed job (if flag then ring_states new_narrow else ring_states new_wide) (states_after states g) h
  served_both true h served = served_more job states g can line narrow new_narrow with_narrow h served
  served_both false h served = served_more job states g can line wide new_wide with h served

  forms_more : (computed : List Bool) → AreRightForms job states (ring_states wide) (ring_states narrow) computed
      → AreRightForms job (states_after states g) (ring_states new_wide) (ring_states new_narrow) computed
  forms_more computed forms h within =
      let form = forms h (omega (arith, within, after_len job states g can)) in record {
        wide_whole = whole_where_more job states g can line wide new_wide with h form.wide_whole;
        narrow_whole = whole_where_more job states g can line narrow new_narrow with_narrow h form.narrow_whole;
        fits = fitting_more job states g can line narrow new_narrow with_narrow h form.fits;
        served = served_both _ h form.served;
      }

  -- the same of lists that are these
  pub forms_made : (now : List RowState) → now ≡ states_after states g → (wide_now narrow_now : List (RowRing ℤ)) → wide_now ≡ new_wide
      → narrow_now ≡ new_narrow → (computed : List Bool) → AreRightForms job states (ring_states wide) (ring_states narrow) computed
      → AreRightForms job now (ring_states wide_now) (ring_states narrow_now) computed
  forms_made now is wide_now narrow_now wide_is narrow_is computed forms =
      subst (λ (xs : List RowState). AreRightForms job xs (ring_states wide_now) (ring_states narrow_now) computed) (sym is)
      (subst (λ (xs : List (RowRing ℤ)). AreRightForms job (states_after states g) (ring_states xs) (ring_states narrow_now) computed)
      (sym wide_is)
      (subst (λ (xs : List (RowRing ℤ)). AreRightForms job (states_after states g) (ring_states new_wide) (ring_states xs) computed)
      (sym narrow_is) (forms_more computed forms)))

-- ---- a ring that is put back

module _ (g : ℕ) (line : List ℤ) (rings : List (RowRing ℤ)) where
  pub with_more : (ring new : RowRing ℤ) → slice_get rings g ≡ Some ring → HasRowMore line ring new → AreWithRow g line rings (set rings g new)
  with_more ring new there more = record {
    others = λ h ne. slice_get-set_other rings g h new ne;
    none = λ e. absurd (none-some ring (sym e ∙ there));
    own = λ other is. (
      new,
      slice_get-set_same rings g new (slice_get_within rings g ring there),
      inr (subst (λ (a : RowRing ℤ). HasRowMore line a new) (same_Some ring other (sym there ∙ is)) more),
    );
  }

  pub with_none : ((ring : RowRing ℤ) → slice_get rings g ≡ Some ring → ring.state.kept ≡ 0) → AreWithRow g line rings rings
  with_none empty = record {
    others = λ h ne. refl;
    none = λ e. e;
    own = λ ring is. (ring, is, inl (empty ring is, refl));
  }

pub with_made : (job : Pipeline) (g : ℕ) (rings : List (RowRing ℤ)) (ring new : RowRing ℤ) → slice_get rings g ≡ Some ring
    → HasOneRowMore job g ring new → AreWithRow g (row_at new ring.state.next) rings (set rings g new)
with_made job g rings ring new there more =
    with_more g (row_at new ring.state.next) rings ring new there
    (record { state = more.state; older = more.older; made = λ k h. refl })
