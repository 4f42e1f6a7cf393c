use Rattle.std.proofs.Common.{All, take}
use Rattle.narrow_sums.specs.inside.NearTerms.{IsNear}
use Rattle.narrow_sums.proofs.bounds.find_narrow_sum_term_bounds.Given as goal

abbrev pub invariant-loop-k : goal.invariant-loop-k
invariant-loop-k l = All (λ t. IsNear l.fn.center l.bounds t.part) (take l.k l.fn.terms)
