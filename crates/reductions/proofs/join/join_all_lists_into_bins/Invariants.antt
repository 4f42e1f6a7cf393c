use Rattle.std.proofs.Common.{◌≡◌, length, drop, map}
use Rattle.std.specs.Prelude.{fold}
use Rattle.reductions.specs.Bins.{joined_bins}
use Rattle.reductions.proofs.join.join_all_lists_into_bins.Given as goal

abbrev pub invariant-loop-others : goal.invariant-loop-others
invariant-loop-others l = record {
  long : length l.bins ≡ length l.initial.bins;
  joined : fold (joined_bins l.fn.op) l.bins (map (λ others. others.items) (drop l.others-index l.all))
      ≡ fold (joined_bins l.fn.op) l.initial.bins (map (λ others. others.items) l.all);
}
