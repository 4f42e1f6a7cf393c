-- The rings of all stages, when one of them makes its next row.
use Rattle.std.proofs.Common.{ℕ, ℤ, pos, ◌≡◌, ◌≢◌, ◌⊎◌, inl, inr, List, Option, Some, None, slice_get}
use Rattle.std.proofs.Common.{refl, sym, ap, ◌∙◌, subst}
use Rattle.std.specs.Option.{option_map, option_map_or}
use Rattle.std.proofs.lemmas.Bool.{cases_eq}
use Rattle.std.proofs.lemmas.Option.{none-some, same_Some, slice_get-map}
use Rattle.domains.specs.Span.{Holds}
use Rattle.domains.specs.declared.area.Area.{Area}
use Rattle.job.specs.Pipeline.{Pipeline}
use Rattle.job.specs.Reads.{Read, EachTaken, point, window, stage_read}
use Rattle.job.specs.Values.{value}
use Rattle.job.specs.WellFormed.{IsJob, IsReadable}
use Rattle.job.proofs.Solving.{BodyReads-both}
use Rattle.row_plans.specs.Plans.{CanMake}
use Rattle.row_plans.specs.Rows.{IsKeptAt, IsKeptRow, next_row}
use Rattle.row_plans.specs.declared.row_state.RowState.{RowState}
use Rattle.row_rings.specs.RingForms.{IsWhole, IsServed}
use Rattle.row_rings.specs.RingRows.{number_at, number_in, sample_in, IsKeptPoint, ring_states}
use Rattle.row_rings.specs.TrueRings.{AreTrueRings, ArePlacedRings}
use Rattle.row_rings.specs.inside.Making.{IsMakeable}
use Rattle.row_rings.specs.declared.ring.RowRing.{RowRing}
use Rattle.row_rings.proofs.Taking.{reads_both}

-- ---- one ring

abbrev pub state_of : {T : Type 0} → RowRing T → RowState
state_of ring = ring.state

-- the ring that has a state
pub state_ring : {T : Type 0} (rings : List (RowRing T)) (g : ℕ) (s : RowState) → slice_get (ring_states rings) g ≡ Some s
    → (ring : RowRing T) × (slice_get rings g ≡ Some ring) × (ring.state ≡ s)
state_ring {T} rings g s is = by (slice_get rings g) refl
  where
    by : (o : Option (RowRing T)) → slice_get rings g ≡ o → (ring : RowRing T) × (slice_get rings g ≡ Some ring) × (ring.state ≡ s)
    by None e = absurd (none-some s (sym (ap (option_map state_of) e) ∙ sym (slice_get-map state_of rings g) ∙ is))
    by (Some ring) e =
        (ring, e, same_Some ring.state s (sym (ap (option_map state_of) e) ∙ sym (slice_get-map state_of rings g) ∙ is))

pub state_at : {T : Type 0} (rings : List (RowRing T)) (g : ℕ) (ring : RowRing T) → slice_get rings g ≡ Some ring
    → slice_get (ring_states rings) g ≡ Some ring.state
state_at rings g ring there = slice_get-map state_of rings g ∙ ap (option_map state_of) there

pub ring_state : {T : Type 0} (rings : List (RowRing T)) (g : ℕ) (ring : RowRing T) (s : RowState) → slice_get rings g ≡ Some ring
    → slice_get (ring_states rings) g ≡ Some s → ring.state ≡ s
ring_state rings g ring s there is = same_Some ring.state s (sym (state_at rings g ring there) ∙ is)

pub ring_sample : {T : Type 0} (d : T) (rings : List (RowRing T)) (g : ℕ) (ring : RowRing T) (r c : ℤ) → slice_get rings g ≡ Some ring
    → number_in d rings g r c ≡ number_at d ring r c
ring_sample {T} d rings g ring r c there = ap (λ (o : Option (RowRing T)). option_map_or (λ a. number_at d a r c) o d) there

-- ---- the ring of stage g is taken out

module _ (job : Pipeline) (states : List RowState) (rings others : List (RowRing ℤ)) (g : ℕ)
    (same : (h : ℕ) → h ≢ g → slice_get others h ≡ slice_get rings h) (none : (r c : ℤ) → ¬ (IsKeptPoint others g r c)) where
  pub true_without : AreTrueRings job rings → AreTrueRings job others
  true_without right h r c k = by (cases_eq h g)
    where
      by : (h ≡ g) ⊎ (h ≡ g → ⊥) → sample_in others h r c ≡ value job h r c
      by (inl e) = absurd (none r c (subst (λ n. IsKeptPoint others n r c) e k))
      by (inr ne) =
          let there : slice_get rings h ≡ Some k.ring = sym (same h ne) ∙ k.there in
          ring_sample (pos 0) others h k.ring r c k.there ∙ sym (ring_sample (pos 0) rings h k.ring r c there)
          ∙ right h r c (record { ring = k.ring; there = there; row = k.row; column = k.column })

  -- what can be read, and whose rows are kept, is kept of another stage
  abbrev Asked : ℕ → ℤ → ℤ → Type 0
  Asked m q d = IsReadable job.stages m q d × (m ≢ g) × IsKeptAt states m q

  taken : ArePlacedRings job rings → (m : ℕ) (q d : ℤ) → IsWhole (ring_states rings) states m → Asked m q d → IsKeptPoint others m q d
  taken placed m q d whole k =
      let found = state_ring rings m k.2.0 (whole ∙ k.2.1) in
      let row : IsKeptRow found.0.state q = subst (λ (s : RowState). IsKeptRow s q) (sym found.2) k.2.2 in
      record {
        ring = found.0;
        there = same m k.1 ∙ found.1;
        row = row;
        column = subst (λ (a : Area). Holds a.cols d) (sym (placed m found.0 k.0.stage q found.1 k.0.there row)) k.0.within.1;
      }

  read_taken : ArePlacedRings job rings → (r c : ℤ) (x : Read) → IsWhole (ring_states rings) states (stage_read x) → EachTaken Asked x r c
      → EachTaken (IsKeptPoint others) x r c
  read_taken placed r c (point m i j) whole k = taken placed m _ _ whole k
  read_taken placed r c (window m kernel) whole k = λ a b la lb. taken placed m _ _ whole (k a b la lb)

  pub makeable : IsJob job → ArePlacedRings job rings → CanMake job states g → IsServed job (ring_states rings) states g
      → (ring : RowRing ℤ) → slice_get rings g ≡ Some ring → IsMakeable job others g ring.state
  makeable well placed can served ring there =
      subst (IsMakeable job others g) (sym (ring_state rings g ring can.state there (served.own ∙ can.own))) (record {
        stage = can.stage;
        there = can.there;
        valued = can.valued;
        area = can.area;
        left = can.left;
        reads = λ c inside.
            BodyReads-both Asked (IsKeptPoint others) (λ x. IsWhole (ring_states rings) states (stage_read x)) can.stage.body
            (next_row can.state) c (read_taken placed (next_row can.state) c) (served.reads can.stage can.there can.valued)
            (reads_both (IsReadable job.stages) (λ h q d. (h ≢ g) × IsKeptAt states h q) Asked (λ m q d x y. (x, y.0, y.1)) can.stage.body
            (next_row can.state) c ((well.stages g can.stage can.there).reads (next_row can.state) c inside) (can.reads c inside));
      })
