use Rattle.std.proofs.Common.{FitsSigned, rules, pos, get_or, subst, ℤ, List, arith}
use Rattle.std.proofs.lemmas.List.{take_all}
use Rattle.std.proofs.lemmas.List.Elements.{All-more}
use Rattle.std.specs.Int.{w64}
use Rattle.std.specs.List.{All}
use Rattle.tile_fact.proofs.laws.fact_bins_fit_64_bits.Goals as goal

pub loop-bin-preserved : goal.loop-bin-preserved
loop-bin-preserved c =
    let fits : FitsSigned w64 (get_or c.args.bins.now c.loop-bin.bin-index (pos 0)) = search rules in
    All-more (FitsSigned w64) c.args.bins.now c.loop-bin.bin-index (pos 0) c.loop-bin-test.true c.loop-bin.invariant fits

pub returns : goal.returns
returns c =
    subst (λ (l : List ℤ). All (FitsSigned w64) l) (take_all c.loop-bin.bin-index c.args.bins.now (omega arith)) c.loop-bin.invariant
