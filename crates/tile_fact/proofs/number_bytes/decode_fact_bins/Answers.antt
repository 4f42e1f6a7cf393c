use Rattle.std.proofs.Common.{FitsSigned, rules, ℤ, ◌++◌, ◌∷◌, [], ◌∙◌, ap, arith}
use Rattle.std.proofs.lemmas.Int.{to_z-of_z}
use Rattle.std.specs.Int.{w64}
use Rattle.tile_fact.specs.Numbers.{numbers_in}
use Rattle.tile_fact.proofs.NumberLaws.{bin_end, bin_more, none_more}
use Rattle.tile_fact.proofs.number_bytes.decode_fact_bins.Goals as goal

pub loop-rest-preserved : goal.loop-rest-preserved
loop-rest-preserved c =
    let bin = c.decode_first_fact_bin-bin.result.0 in
    let fits : FitsSigned w64 bin = search rules in
    let pushed = c.in_ok-push.ensures.items ∙ ap (λ (z : ℤ). c.loop-rest.bins.items ++ z ∷ []) (to_z-of_z w64 bin fits) in
    bin_more c.loop-rest.bins.items (numbers_in w64 c.args.bytes.now) _ c.loop-rest.rest.now _ bin (omega arith) c.loop-rest.invariant
    pushed c.decode_first_fact_bin-bin.ensures.bin c.decode_first_fact_bin-bin.ensures.behind

pub returns : goal.returns
returns c =
    none_more c.loop-rest.bins.items (numbers_in w64 c.loop-rest.rest.now) _ c.loop-rest.invariant
    (bin_end c.loop-rest.rest.now (omega arith))
