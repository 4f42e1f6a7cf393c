-- The start values of bins, and the join of bins with bins.
use Rattle.std.specs.Prelude.{ℤ, List, map, zip}
use Rattle.domains.specs.Span.{Ends, numbers_of}
use Rattle.operators.specs.declared.operator.ReductionOp.{ReductionOp}
use Rattle.job.specs.Totals.{start_of, joined}

-- the start value of each bin
abbrev pub starts : ReductionOp → Ends → List ℤ
starts way bins = map (λ b. start_of way) (numbers_of bins)

-- bins joined with bins, place by place
abbrev pub joined_bins : ReductionOp → List ℤ → List ℤ → List ℤ
joined_bins way xs ys = map (λ p. joined way p.0 p.1) (zip xs ys)
