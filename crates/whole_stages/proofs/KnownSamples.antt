-- What a known stage gives at a point.
use Rattle.std.proofs.Common.{ℕ, ℤ, ◌≡◌, List, Option, Some, ap, ◌∙◌, sym, subst}
use Rattle.std.specs.Prelude.{slice_get, unwrap_or}
use Rattle.std.specs.Option.{option_map_or}
use Rattle.domains.specs.Area.{HoldsPoint}
use Rattle.domains.specs.declared.area.Area.{Area}
use Rattle.row_loops.specs.Rows.{at}
use Rattle.tile_eval.specs.Raster.{place_of}
use Rattle.whole_stages.specs.Known.{sample_in, IsKnownAt}
use Rattle.whole_stages.specs.declared.buffers.StageBuffer.{StageBuffer}

same_whole : (buffers : List (Option StageBuffer)) (g : ℕ) (a b : StageBuffer) → slice_get buffers g ≡ Some (Some a)
    → slice_get buffers g ≡ Some (Some b) → a ≡ b
same_whole buffers g a b e f = ap (λ (o : Option (Option StageBuffer)). option_map_or (λ q. unwrap_or q b) o b) (sym e ∙ f)

-- a point at which a stage is known lies in what is known of it
pub known_within : (buffers : List (Option StageBuffer)) (g : ℕ) (whole : StageBuffer) (area : Area) (r c : ℤ)
    → slice_get buffers g ≡ Some (Some whole) → area ≡ whole.area → IsKnownAt buffers g r c → HoldsPoint area r c
known_within buffers g whole area r c there is known =
    subst (λ (a : Area). HoldsPoint a r c) (sym is)
    (subst (λ (w : StageBuffer). HoldsPoint w.area r c) (same_whole buffers g known.whole whole known.there there) known.within)

-- and its value stands at the point's place
pub known_sample : (buffers : List (Option StageBuffer)) (g : ℕ) (whole : StageBuffer) (area : Area) (values : List ℤ) (r c v : ℤ)
    → slice_get buffers g ≡ Some (Some whole) → area ≡ whole.area → values ≡ whole.values.items
    → v ≡ at values (place_of area r c) → v ≡ sample_in (slice_get buffers g) r c
known_sample buffers g whole area values r c v there is same e =
    e
    ∙ ap (λ (xs : List ℤ). at xs (place_of area r c)) same
    ∙ ap (λ (a : Area). at whole.values.items (place_of a r c)) is
    ∙ ap (λ (o : Option (Option StageBuffer)). sample_in o r c) (sym there)
