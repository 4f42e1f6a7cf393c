use Rattle.std.proofs.Common.{◌≡◌, ◌+ℤ◌, ℤ, List, pos, drop, length}
use Rattle.domains.specs.Span.{numbers_from}
use Rattle.tile_eval.specs.Rows.{EachPlace, at}
use Rattle.reductions.specs.inside.Gathering.{after_values, values_of_bin}
use Rattle.reductions.proofs.side_by_side.accumulate_each_in_adjacent_bins.Given as goal

-- the bins so far, and the values that are left
abbrev pub invariant-loop-k : goal.invariant-loop-k
invariant-loop-k g l = (lo : ℤ) →
    let vs : List ℤ = g.V.BinValues.values l.values in
    let places : List ℤ = numbers_from (lo +ℤ pos l.fn.place) (length vs) in
    EachPlace (length l.bins) (λ j. after_values l.fn.op (at l.bins j) (values_of_bin (drop l.k vs) (drop l.k places) (lo +ℤ pos j))
    ≡ after_values l.fn.op (at l.initial.bins j) (values_of_bin vs places (lo +ℤ pos j)))
