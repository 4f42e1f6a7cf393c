-- The limits of a farm.
use Rattle.std.specs.Prelude.{ℕ, ◌<◌, ◌≤◌}

-- 1 to 8 nodes, at most 65536 turns, and a capacity of 1 to 1024 parcels
pub record IsWithin (nodes turns capacity : ℕ) : Type 0 where
  pub some_node : 0 < nodes
  pub few_nodes : nodes ≤ 8
  pub few_turns : turns ≤ 65536
  pub some_room : 0 < capacity
  pub little_room : capacity ≤ 1024
