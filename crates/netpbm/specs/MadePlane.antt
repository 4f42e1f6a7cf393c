-- A plane that is made piece by piece, as contracts see it.
use Rattle.std.specs.Prelude.{ℕ, List, map}

-- the greatest sample that it may have, and its samples
pub record MadePlane : Type 0 where
  pub max : ℕ
  pub samples : List ℕ

abbrev pub made : ℕ → List ℕ → MadePlane
made max samples = record { max = max; samples = samples }

abbrev pub made_samples : List MadePlane → List (List ℕ)
made_samples planes = map (λ plane. plane.samples) planes
