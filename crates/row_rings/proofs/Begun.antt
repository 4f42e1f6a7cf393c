-- Rings in which nothing is made.
use Rattle.std.proofs.Common.{arith, ℕ, zero, suc, ℤ, ◌≡◌, ◌+◌, ◌++◌, ◌<◌, ◌≤◌, ◌⊎◌, inl, inr, List, [], ◌∷◌, Some, length, slice_get, take}
use Rattle.std.proofs.Common.{refl, sym, ap, ◌∙◌}
use Rattle.std.specs.Prelude.{All, slice_index_or}
use Rattle.std.proofs.lemmas.List.{take_more, map-append}
use Rattle.std.proofs.lemmas.Option.{none-some, same_Some, slice_get_within}
use Rattle.domains.proofs.Places.{all_at}
use Rattle.job.specs.Pipeline.{Pipeline}
use Rattle.row_plans.specs.Rows.{IsKeptRow}
use Rattle.row_plans.specs.declared.row_state.RowState.{RowState}
use Rattle.row_rings.specs.RingRows.{ring_states}
use Rattle.row_rings.specs.RingForms.{IsWholeWhereKept}
use Rattle.row_rings.specs.TrueRings.{AreTrueRings, ArePlacedRings}
use Rattle.row_rings.specs.declared.ring.RowRing.{RowRing}
use Rattle.row_rings.proofs.Stages.{state_of, state_at}

-- ---- nothing is kept

module _ (rings : List (RowRing ℤ)) (form states : List RowState) (same : ring_states rings ≡ form)
    (whole : (g : ℕ) → g < length states → IsWholeWhereKept form states g) (few : length form ≤ length states)
    (begun : All (λ (s : RowState). s.next ≡ s.first) states) where
  none_kept : (g : ℕ) (ring : RowRing ℤ) (r : ℤ) → slice_get rings g ≡ Some ring → IsKeptRow ring.state r → ⊥
  none_kept g ring r there kept =
      let found : slice_get form g ≡ Some ring.state =
      ap (λ (xs : List RowState). slice_get xs g) (sym same) ∙ state_at rings g ring there in
      let within : g < length states = omega (arith, few, slice_get_within form g ring.state found) in
      let made = kept.made in let last = kept.kept in
      let at : slice_get states g ≡ Some ring.state = whole g within ring.state found (omega arith) in
      let first = all_at (λ (s : RowState). s.next ≡ s.first) states g ring.state begun at in
      let least = kept.begun in
      omega (arith, first, least, made)

  pub true_first : (job : Pipeline) → AreTrueRings job rings
  true_first job g r c k = absurd (none_kept g k.ring r k.there k.row)

  pub placed_first : (job : Pipeline) → ArePlacedRings job rings
  placed_first job g ring s r there stage kept = absurd (none_kept g ring r there kept)

-- ---- one ring more

pushed_at : {X : Type 0} (xs : List X) (y x : X) (g : ℕ) → slice_get (xs ++ y ∷ []) g ≡ Some x
    → (slice_get xs g ≡ Some x) ⊎ ((g ≡ length xs) × (y ≡ x))
pushed_at [] y x zero e = inr (refl, same_Some y x e)
pushed_at [] y x (suc g) e = absurd (none-some x e)
pushed_at (z ∷ xs) y x zero e = inl e
pushed_at (z ∷ xs) y x (suc g) e =
    elim (pushed_at xs y x g e) [ inl a ↦ inl a | inr b ↦ inr (ap suc b.0, b.1) ]

pub states_pushed : {T : Type 0} (rings : List (RowRing T)) (ring : RowRing T) (states : List RowState) (i : ℕ) (s : RowState) → i < length states
    → s ≡ slice_index_or states i s → ring_states rings ≡ take i states → ring.state ≡ s
    → ring_states (rings ++ ring ∷ []) ≡ take (i + 1) states
states_pushed rings ring states i s h is so own =
    map-append state_of rings (ring ∷ [])
    ∙ (λ j. so j ++ (own ∙ is) j ∷ [])
    ∙ sym (take_more states i s h)
