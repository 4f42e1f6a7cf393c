-- The ring at the place of a stage has the points of the stage that are kept.
use Rattle.std.proofs.Common.{ℕ, ℤ, ◌≡◌, ◌<◌, List, Some, length, slice_get, refl, sym, ◌∙◌, subst}
use Rattle.std.specs.Prelude.{slice_index_or}
use Rattle.std.proofs.lemmas.Option.{same_Some, slice_get_read, slice_get_within}
use Rattle.domains.specs.Span.{Holds}
use Rattle.row_plans.specs.Rows.{IsKeptRow}
use Rattle.row_rings.specs.RingRows.{number_at, number_in, IsKeptPoint}
use Rattle.row_rings.specs.declared.ring.RowRing.{RowRing}
use Rattle.row_rings.proofs.Stages.{ring_sample}

module _ {T : Type 0} (rings : List (RowRing T)) (g : ℕ) (ring : RowRing T) (is : ring ≡ slice_index_or rings g ring) where
  pub ring_there : g < length rings → slice_get rings g ≡ Some ring
  ring_there within = slice_get_read rings (length rings) g ring refl within is

  module _ (r c : ℤ) (k : IsKeptPoint rings g r c) where
    within : g < length rings
    within = slice_get_within rings g k.ring k.there

    same : k.ring ≡ ring
    same = same_Some k.ring ring (sym k.there ∙ ring_there within)

    pub point_row : IsKeptRow ring.state r
    point_row = subst (λ (a : RowRing T). IsKeptRow a.state r) same k.row

    pub point_column : Holds ring.state.area.cols c
    point_column = subst (λ (a : RowRing T). Holds a.state.area.cols c) same k.column

    pub point_sample : (d : T) → number_at d ring r c ≡ number_in d rings g r c
    point_sample d = sym (ring_sample d rings g ring r c (ring_there within))
