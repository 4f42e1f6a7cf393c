-- Identities as bytes.
use Rattle.std.specs.Prelude.{ℕ, ◌*◌, ◌≤◌, List, length}
use Rattle.tile_fact.specs.Numbers.{first_pairs}
use Rattle.tile_fact.specs.Order.{IdsRise}

-- the bytes begin with count identities, which rise
pub record IsListing (count : ℕ) (bytes : List ℕ) : Type 0 where
  pub whole : count * 64 ≤ length bytes
  pub rise : IdsRise (first_pairs count bytes)
