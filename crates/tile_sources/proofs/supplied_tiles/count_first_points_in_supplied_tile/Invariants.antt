use Rattle.std.proofs.Common.{◌-◌, ◌<◌, ◌≤◌, ◌+ℤ◌, pos}
use Rattle.domains.specs.Index.{index_at}
use Rattle.domains.specs.Span.{Holds}
use Rattle.tile_eval.specs.Rows.{EachPlace}
use Rattle.tile_sources.proofs.supplied_tiles.count_first_points_in_supplied_tile.Given as goal

abbrev pub invariant-loop-held : goal.invariant-loop-held
invariant-loop-held l = record {
  some : 0 < l.held;
  ordered : l.held ≤ l.end;
  most : l.end ≤ l.fn.points.len;
  within : EachPlace l.held (λ k. Holds l.fn.span (index_at l.fn.col (l.fn.points.col +ℤ pos k)));
}

abbrev pub decreases-loop-held : goal.decreases-loop-held
decreases-loop-held l = l.end - l.held
