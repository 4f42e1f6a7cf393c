-- Where the samples of planes stand.
use Rattle.std.proofs.Common.{arith, ℕ, zero, suc, ℤ, pos, negsuc, ◌≡◌, ◌+◌, ◌*◌, ◌<◌, ◌≤◌, ◌+ℤ◌, ◌-ℤ◌, ◌≤ℤ◌, unsigned_abs, ap}
use Rattle.std.proofs.Common.{◌∙◌, sym, subst, List, [], slice_index, slice_index_or}
use Rattle.std.proofs.Math.IntN.{+ℤ_idr}
use Rattle.std.proofs.lemmas.Int.{ints}
use Rattle.std.proofs.lemmas.Nat.{mul-add-lt}
use Rattle.domains.specs.Area.{HoldsPoint}
use Rattle.domains.specs.Index.{Scale, index_at}
use Rattle.netpbm.specs.Image.{Image}
use Rattle.plane_samples.specs.declared.samples.PlaneSamples.{PlaneSamples}
use Rattle.plane_samples.specs.Samples.{count_in, sample_in, IsSamples}
use Rattle.job.specs.Values.{sample_at}
use Rattle.job.specs.WellFormed.{picture_area}
use Rattle.tile_eval.specs.Rows.{EachPlace}

abs_below : (v : ℤ) (n : ℕ) → pos 0 ≤ℤ v → v ≤ℤ (pos n -ℤ pos 1) → unsigned_abs v < n
abs_below (pos m) n lo hi = omega (arith, ints)
abs_below (negsuc m) n lo hi = absurd (omega (arith, ints))

abs_more : (v : ℤ) (k : ℕ) → pos 0 ≤ℤ v → unsigned_abs (v +ℤ pos k) ≡ unsigned_abs v + k
abs_more (pos m) k lo = omega (arith, ints)
abs_more (negsuc m) k lo = absurd (omega (arith, ints))

-- the place of a point is one of the places of the samples
pub sample_below : (p : Image) (r c : ℤ) → HoldsPoint (picture_area p) r c → unsigned_abs r * p.cols + unsigned_abs c < p.rows * p.cols
sample_below p r c h =
    let split = mul-add-lt (unsigned_abs r) p.cols (unsigned_abs c) p.rows (abs_below r p.rows h.0.0 h.0.1)
    (abs_below c p.cols h.1.0 h.1.1) in
    omega arith

-- so are those of a row of points
pub row_below : (p : Image) (r c : ℤ) (n place : ℕ) → place ≡ unsigned_abs r * p.cols + unsigned_abs c → 0 < n
    → ((k : ℕ) → k < n → HoldsPoint (picture_area p) r (c +ℤ pos k)) → place + n ≤ p.rows * p.cols
row_below p r c zero place is some h = absurd (omega arith)
row_below p r c (suc m) place is some h =
    let last = h m (omega arith) in
    let first = h 0 some in
    let from = first.1.0 in
    let start : pos 0 ≤ℤ c = omega (arith, ints) in
    let more = abs_more c m start in
    omega (arith, sample_below p r (c +ℤ pos m) last)

-- samples are those of the list
sample_of : (k : ℕ) (samples : PlaneSamples) (list : List ℕ) → IsSamples samples list → k < count_in samples → sample_in samples k ≡ slice_index list k
sample_of k samples list are l = are.1 k (omega (arith, are.0))

-- the samples of a row follow one another
pub sample_along : (p : Image) (n : ℕ) (r c : ℤ) (place k : ℕ) (samples : PlaneSamples) (v : ℤ) → IsSamples samples (slice_index_or p.planes n [])
    → place + k < count_in samples → place ≡ unsigned_abs r * p.cols + unsigned_abs c → pos 0 ≤ℤ c
    → v ≡ pos (sample_in samples (place + k)) → v ≡ sample_at p n r (c +ℤ pos k)
sample_along p n r c place k samples v are there is start e =
    let along : place + k ≡ unsigned_abs r * p.cols + unsigned_abs (c +ℤ pos k) = omega (arith, abs_more c k start) in
    e ∙ ap (λ (m : ℕ). pos m) (sample_of (place + k) samples (slice_index_or p.planes n []) are there)
    ∙ ap (λ (m : ℕ). pos (slice_index (slice_index_or p.planes n []) m)) along

-- the place of a point further along a row
place_further : (p : Image) (r c : ℤ) (place j : ℕ) → place ≡ unsigned_abs r * p.cols + unsigned_abs c → pos 0 ≤ℤ c
    → place + j ≡ unsigned_abs r * p.cols + unsigned_abs (c +ℤ pos j)
place_further p r c place j is low = omega (arith, abs_more c j low)

-- ---- columns of an index, which lie so far from the first

module _ (p : Image) (r : ℤ) (x : Scale) (c : ℤ) (far : ℕ → ℕ) (n place : ℕ) (goes : (k : ℕ) → index_at x (c +ℤ pos k)
    ≡ index_at x c +ℤ pos (far k)) (first : place ≡ unsigned_abs r * p.cols + unsigned_abs (index_at x c))
    (each : EachPlace n (λ k. HoldsPoint (picture_area p) r (index_at x (c +ℤ pos k)))) where
  -- their places lie as far from the first
  sample_goes : (k : ℕ) → k < n → place + far k ≡ unsigned_abs r * p.cols + unsigned_abs (index_at x (c +ℤ pos k))
  sample_goes k l =
      let some : 0 < n = omega arith in
      let low : pos 0 ≤ℤ index_at x c = subst (λ (z : ℤ). pos 0 ≤ℤ index_at x z) (+ℤ_idr c) (each 0 some).1.0 in
      place_further p r (index_at x c) place (far k) first low
      ∙ ap (λ (z : ℤ). unsigned_abs r * p.cols + unsigned_abs z) (sym (goes k))

  -- these are places of samples
  pub far_below : (k : ℕ) → k < n → place + far k < p.rows * p.cols
  far_below k l = subst (λ (q : ℕ). q < p.rows * p.cols) (sym (sample_goes k l)) (sample_below p r (index_at x (c +ℤ pos k)) (each k l))

  pub sample_picked : (plane : ℕ) (samples : PlaneSamples) (v : ℤ) (k : ℕ) → IsSamples samples (slice_index_or p.planes plane [])
      → count_in samples ≡ p.rows * p.cols → k < n
      → v ≡ pos (sample_in samples (place + far k)) → v ≡ sample_at p plane r (index_at x (c +ℤ pos k))
  sample_picked plane samples v k are count l e =
      let there : place + far k < count_in samples = omega (arith, far_below k l) in
      e ∙ ap (λ (m : ℕ). pos m) (sample_of (place + far k) samples (slice_index_or p.planes plane []) are there)
      ∙ ap (λ (q : ℕ). pos (slice_index (slice_index_or p.planes plane []) q)) (sample_goes k l)
