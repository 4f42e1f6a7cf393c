use Rattle.std.proofs.Common.{length, ◌-◌, ◌≡◌, ◌≤◌, ◌+ℤ◌, pos}
use Rattle.domains.specs.Index.{index_at}
use Rattle.tile_eval.specs.Rows.{EachPlace, at}
use Rattle.tile_sources.specs.KnownTiles.{number_at}
use Rattle.tile_sources.proofs.supplied_tiles.SuppliedTiles.gather_row.Given as goal

abbrev pub invariant-loop-done : goal.invariant-loop-done
invariant-loop-done g l = record {
  most : l.done ≤ length l.out;
  numbers : EachPlace l.done (λ k. at l.out k
      ≡ number_at (g.K.TileSource.given l.fn.self.known.now) l.fn.self.stage l.fn.self.grid l.fn.row
      (index_at l.fn.col (l.fn.points.col +ℤ pos k)));
}

abbrev pub decreases-loop-done : goal.decreases-loop-done
decreases-loop-done g l = length l.initial.out - l.done
