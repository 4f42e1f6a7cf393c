-- The planes of a picture as lists of samples, without where they lie in memory.
use Rattle.std.specs.Prelude.{ℕ, List, map}
use Rattle.std.specs.Global.{Vec}

abbrev pub samples_of : List (Vec ℕ) → List (List ℕ)
samples_of planes = map (λ plane. plane.items) planes
