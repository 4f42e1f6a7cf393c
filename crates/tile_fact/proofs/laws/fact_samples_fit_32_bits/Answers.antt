use Rattle.std.proofs.Common.{FitsSigned, rules, pos, get_or, subst, ℤ, List, arith}
use Rattle.std.proofs.lemmas.List.{take_all}
use Rattle.std.proofs.lemmas.List.Elements.{All-more}
use Rattle.std.specs.Int.{w32}
use Rattle.std.specs.List.{All}
use Rattle.tile_fact.proofs.laws.fact_samples_fit_32_bits.Goals as goal

pub loop-sample-preserved : goal.loop-sample-preserved
loop-sample-preserved c =
    let fits : FitsSigned w32 (get_or c.args.samples.now c.loop-sample.sample-index (pos 0)) = search rules in
    All-more (FitsSigned w32) c.args.samples.now c.loop-sample.sample-index (pos 0) c.loop-sample-test.true c.loop-sample.invariant fits

pub returns : goal.returns
returns c =
    subst (λ (l : List ℤ). All (FitsSigned w32) l) (take_all c.loop-sample.sample-index c.args.samples.now (omega arith))
    c.loop-sample.invariant
