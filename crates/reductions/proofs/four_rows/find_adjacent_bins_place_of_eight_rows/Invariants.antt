use Rattle.std.proofs.Common.{ℕ, ◌≡◌, ◌<◌, ◌+◌, ◌+ℤ◌, pos}
use Rattle.domains.specs.Span.{len_of}
use Rattle.job.specs.Values.{Valuation, formula_value}
use Rattle.job.specs.Views.{formula_view}
use Rattle.reductions.proofs.four_rows.find_adjacent_bins_place_of_eight_rows.Given as goal

-- the rows that are looked at have the bins from this place on
abbrev pub invariant-loop-m : goal.invariant-loop-m
invariant-loop-m l = (env : Valuation) (i k : ℕ) → i < l.m → k < len_of l.area.cols
    → formula_value env (formula_view l.bin) (l.area.rows.lo +ℤ pos (l.row + i)) (l.area.cols.lo +ℤ pos k) ≡ l.bins.lo +ℤ pos l.place +ℤ pos k
