-- Samples that are kept in bytes or in numbers of 16 bits.
use Rattle.std.specs.Prelude.{ℕ, ◌<◌, List}
use Rattle.netpbm.specs.declared.packed_samples.PackedSamples.{PackedSamples}
use Rattle.netpbm.specs.declared.packed_samples.PackedSamples.TheVariants.{Bytes, Words}

-- the samples
abbrev pub list_of : PackedSamples → List ℕ
list_of (Bytes bytes) = bytes.items
list_of (Words words) = words.items

-- bytes hold samples up to the greatest one
abbrev pub Holds : ℕ → PackedSamples → Type 0
Holds max (Bytes bytes) = max < 256
Holds max (Words words) = Unit {0}
