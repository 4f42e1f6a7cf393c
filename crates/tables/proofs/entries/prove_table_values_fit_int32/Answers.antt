use Rattle.std.proofs.Common.{FitsSigned, rules, pos, get_or, subst, ℤ, List, arith}
use Rattle.std.proofs.lemmas.List.{take_all}
use Rattle.std.proofs.lemmas.List.Elements.{All-more}
use Rattle.std.specs.Int.{w32}
use Rattle.std.specs.List.{All}
use Rattle.tables.proofs.entries.prove_table_values_fit_int32.Goals as goal

pub loop-number-preserved : goal.loop-number-preserved
loop-number-preserved c =
    let fits : FitsSigned w32 (get_or c.args.numbers.now c.loop-number.number-index (pos 0)) = search rules in
    All-more (FitsSigned w32) c.args.numbers.now c.loop-number.number-index (pos 0) c.loop-number-test.true c.loop-number.invariant fits

pub returns : goal.returns
returns c =
    subst (λ (l : List ℤ). All (FitsSigned w32) l) (take_all c.loop-number.number-index c.args.numbers.now (omega arith))
    c.loop-number.invariant
