use Rattle.std.proofs.Common.{◌≡◌, ℕ, None, length}
use Rattle.tile_run.specs.Stored.{stored_tiles}
use Rattle.tile_run.proofs.stored.StoredTiles.new.Given as goal

abbrev pub invariant-loop : goal.invariant-loop
invariant-loop l = (length l.stages.items ≡ l.counter) × ((g i j : ℕ) → stored_tiles l.stages.items g i j ≡ None)
