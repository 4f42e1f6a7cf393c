-- How many nodes a world may have.
use Rattle.std.specs.Prelude.{ℕ, ◌≤◌}

-- from 1 to 16
pub record IsNodeCount (n : ℕ) : Type 0 where
  pub least : 1 ≤ n
  pub most : n ≤ 16
