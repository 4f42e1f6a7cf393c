use Rattle.std.proofs.Common.{◌≡◌, length}
use Rattle.std.specs.Cmp.Lexicographic.{slice_cmp}
use Rattle.std.specs.Int.{w32}
use Rattle.std.specs.Ordering.{int_cmp}
use Rattle.tile_fact.specs.Numbers.{numbers_in}
use Rattle.tile_fact.proofs.number_bytes.compare_encoded_fact_samples.Given as goal

-- what is left is in the order of all
abbrev pub invariant-loop-a_rest : goal.invariant-loop-a_rest
invariant-loop-a_rest l =
    slice_cmp int_cmp (numbers_in w32 l.a_rest) (numbers_in w32 l.b_rest) ≡ slice_cmp int_cmp (numbers_in w32 l.a) (numbers_in w32 l.b)

abbrev pub decreases-loop-a_rest : goal.decreases-loop-a_rest
decreases-loop-a_rest l = length l.a_rest
