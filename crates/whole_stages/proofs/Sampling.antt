-- Planes of a picture as values.
use Rattle.std.proofs.Common.{arith, ℕ, ℤ, pos, ◌≡◌, ◌+◌, ◌-◌, ◌*◌, ◌<◌, ◌+ℤ◌, ◌-ℤ◌, sym, ap, subst, ◌∙◌, List, [], length}
use Rattle.std.proofs.Common.{slice_index_or}
use Rattle.std.proofs.Math.IntN.{+ℤ_idl}
use Rattle.std.proofs.lemmas.Int.{ints}
use Rattle.std.proofs.lemmas.Nat.{mul-add-lt}
use Rattle.std.specs.Int.{int_gap}
use Rattle.domains.specs.Span.{len_of}
use Rattle.domains.specs.Area.{point_count}
use Rattle.netpbm.specs.Image.{Image, IsImage}
use Rattle.plane_samples.specs.declared.samples.PlaneSamples.{PlaneSamples}
use Rattle.plane_samples.specs.Samples.{count_in, sample_in, IsSamples}
use Rattle.job.specs.Values.{sample_at}
use Rattle.job.specs.WellFormed.{picture_area}
use Rattle.row_loops.specs.Rows.{EachPlace, at}
use Rattle.tile_eval.specs.Raster.{raster}
use Rattle.tile_eval.proofs.Rasters.{raster_of}

-- how many numbers there are from 0 to n - 1
side : (n : ℕ) → int_gap (pos 0) (pos n -ℤ pos 1 +ℤ pos 1) ≡ n
side n =
    let end : pos n -ℤ pos 1 +ℤ pos 1 ≡ pos n = omega (arith, ints) in
    let count : n - 0 ≡ n = omega arith in
    ap (int_gap (pos 0)) end ∙ count

-- the samples of a plane are its values
pub plane_raster : (p : Image) (n : ℕ) (samples : PlaneSamples) (values : List ℤ) → IsImage p → n < length p.planes
    → IsSamples samples (slice_index_or p.planes n []) → length values ≡ count_in samples
    → EachPlace (count_in samples) (λ k. at values k ≡ pos (sample_in samples k)) → values ≡ raster (picture_area p) (sample_at p n)
plane_raster p n samples values image h are count e = raster_of (picture_area p) (sample_at p n) values whole each
  where
    plane : List ℕ
    plane = slice_index_or p.planes n []

    size : length plane ≡ p.rows * p.cols
    size = (image.planes n [] h).whole

    whole : length values ≡ point_count (picture_area p)
    whole = count ∙ are.0 ∙ size ∙ (λ i. sym (side p.rows) i * sym (side p.cols) i)

    each : (a k : ℕ) → a < len_of (picture_area p).rows → k < len_of (picture_area p).cols
        → at values (a * len_of (picture_area p).cols + k) ≡ sample_at p n (pos 0 +ℤ pos a) (pos 0 +ℤ pos k)
    each a k r c =
        let a_in : a < p.rows = subst (λ (z : ℕ). a < z) (side p.rows) r in
        let k_in : k < p.cols = subst (λ (z : ℕ). k < z) (side p.cols) c in
        let place : a * p.cols + k < length plane = omega (arith, mul-add-lt a p.cols k p.rows a_in k_in, size) in
        let known : a * p.cols + k < count_in samples = omega (arith, are.0) in
        (λ i. at values (a * side p.cols i + k))
        ∙ e (a * p.cols + k) known
        ∙ ap (λ (z : ℕ). pos z) (are.1 (a * p.cols + k) place)
        ∙ (λ i. sample_at p n (sym (+ℤ_idl (pos a)) i) (sym (+ℤ_idl (pos k)) i))
