use Rattle.std.proofs.Common.{◌≡◌, ℤ, List, drop}
use Rattle.reductions.specs.inside.Gathering.{after_values}
use Rattle.reductions.proofs.side_by_side.reduce_each_value_into_total.Given as goal

-- what came so far, and the values that are left
abbrev pub invariant-loop-k : goal.invariant-loop-k
invariant-loop-k g l =
    let vs : List ℤ = g.V.BinValues.values l.values in
    after_values l.fn.op l.so_far (drop l.k vs) ≡ after_values l.fn.op l.fn.total vs
