-- What holds of each plane, with or without where it lies in memory.
use Rattle.std.proofs.Common.{◌≡◌, ℕ, ◌*◌, ◌⊎◌, List, [], ◌∷◌, length, map, get_or, sym, ap, subst, arith, All}
use Rattle.std.proofs.lemmas.List.{get_or-map, length-map}
use Rattle.std.proofs.lemmas.List.Elements.{All-map}
use Rattle.netpbm.specs.Colours.{interleaved}
use Rattle.netpbm.specs.Image.{IsPlane, AreSizes, IsImage, image}
use Rattle.netpbm.specs.MadePlane.{MadePlane, made_samples}

-- planes of which we see the samples
module _ {X : Type 0} (view : X → List ℕ) where
  each_out : (area max : ℕ) (planes : List X) → All (IsPlane area max) (map view planes) → All (λ (plane : X). IsPlane area max (view plane)) planes
  each_out area max planes h k d lt = subst (IsPlane area max) (get_or-map view planes k d [] lt) (h k [] (rw length-map lt))

  pub image_in : (rows cols max : ℕ) (planes : List X) → AreSizes rows cols max (length planes)
      → All (λ (plane : X). IsPlane (rows * cols) max (view plane)) planes → IsImage (image rows cols max (map view planes))
  image_in rows cols max planes sizes each = record {
    rows = sizes.high;
    cols = sizes.wide;
    max = sizes.deep;
    colours = rw length-map sizes.coloured;
    planes = All-map (IsPlane (rows * cols) max) view planes each;
  }

  pub image_out : (rows cols max : ℕ) (planes : List X) → IsImage (image rows cols max (map view planes))
      → AreSizes rows cols max (length planes) × All (λ (plane : X). IsPlane (rows * cols) max (view plane)) planes
  image_out rows cols max planes h = (
    record {
      high = h.rows;
      wide = h.cols;
      deep = h.max;
      coloured = subst (λ n. (n ≡ 1) ⊎ (n ≡ 3)) (length-map planes view) h.colours;
    },
    each_out (rows * cols) max planes h.planes,
  )

-- the samples of one plane in turn are its own
pub one_made : (planes : List MadePlane) (grey : MadePlane) → length planes ≡ 1 → grey ≡ get_or planes 0 grey
    → interleaved (made_samples planes) ≡ grey.samples
one_made [] grey e h = absurd (omega arith)
one_made (a ∷ []) grey e h = ap (λ (plane : MadePlane). plane.samples) (sym h)
one_made (a ∷ b ∷ planes) grey e h = absurd (omega arith)
