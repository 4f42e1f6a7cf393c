-- The samples of a plane as they lie in memory.
use Rattle.std.specs.Prelude.{ℕ, ◌≡◌, ◌+◌, ◌*◌, ◌<◌, List, length, slice_index}
use Rattle.plane_samples.specs.declared.samples.PlaneSamples.{PlaneSamples}
use Rattle.plane_samples.specs.declared.samples.PlaneSamples.TheVariants.{Words, Bytes, Pairs}

-- the number of samples
abbrev pub count_in : PlaneSamples → ℕ
count_in (Words words) = length words.now
count_in (Bytes spaced) = spaced.count
count_in (Pairs spaced) = spaced.count

-- the sample at a place
abbrev pub sample_in : PlaneSamples → ℕ → ℕ
sample_in (Words words) k = slice_index words.now k
sample_in (Bytes spaced) k = slice_index spaced.bytes.now (k * spaced.step)
sample_in (Pairs spaced) k = 256 * slice_index spaced.bytes.now (k * spaced.step) + slice_index spaced.bytes.now (k * spaced.step + 1)

-- these are the samples
abbrev pub IsSamples : PlaneSamples → List ℕ → Type 0
IsSamples samples list = (count_in samples ≡ length list) × ((k : ℕ) → k < length list → sample_in samples k ≡ slice_index list k)
