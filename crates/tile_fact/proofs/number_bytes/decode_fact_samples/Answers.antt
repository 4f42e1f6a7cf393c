use Rattle.std.proofs.Common.{FitsSigned, rules, ℤ, ◌++◌, ◌∷◌, [], ◌∙◌, ap, arith}
use Rattle.std.proofs.lemmas.Int.{to_z-of_z}
use Rattle.std.specs.Int.{w32}
use Rattle.tile_fact.specs.Numbers.{numbers_in}
use Rattle.tile_fact.proofs.NumberLaws.{sample_end, sample_more, none_more}
use Rattle.tile_fact.proofs.number_bytes.decode_fact_samples.Goals as goal

pub loop-rest-preserved : goal.loop-rest-preserved
loop-rest-preserved c =
    let sample = c.decode_first_fact_sample-sample.result.0 in
    let fits : FitsSigned w32 sample = search rules in
    let pushed = c.in_ok-push.ensures.items ∙ ap (λ (z : ℤ). c.loop-rest.samples.items ++ z ∷ []) (to_z-of_z w32 sample fits) in
    sample_more c.loop-rest.samples.items (numbers_in w32 c.args.bytes.now) _ c.loop-rest.rest.now _ sample (omega arith)
    c.loop-rest.invariant
    pushed c.decode_first_fact_sample-sample.ensures.sample c.decode_first_fact_sample-sample.ensures.behind

pub returns : goal.returns
returns c =
    none_more c.loop-rest.samples.items (numbers_in w32 c.loop-rest.rest.now) _ c.loop-rest.invariant
    (sample_end c.loop-rest.rest.now (omega arith))
