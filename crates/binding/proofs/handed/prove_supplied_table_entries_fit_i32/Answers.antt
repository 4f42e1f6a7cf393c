use Rattle.std.proofs.Common.{FitsSigned, rules, pos, get_or, subst, ℤ, List, arith}
use Rattle.std.proofs.lemmas.List.{take_all}
use Rattle.std.proofs.lemmas.List.Elements.{All-more}
use Rattle.std.specs.Int.{w32}
use Rattle.std.specs.List.{All}
use Rattle.binding.proofs.handed.prove_supplied_table_entries_fit_i32.Goals as goal

pub loop-entry-preserved : goal.loop-entry-preserved
loop-entry-preserved c =
    let fits : FitsSigned w32 (get_or c.args.entries.now c.loop-entry.entry-index (pos 0)) = search rules in
    All-more (FitsSigned w32) c.args.entries.now c.loop-entry.entry-index (pos 0) c.loop-entry-test.true c.loop-entry.invariant fits

pub returns : goal.returns
returns c =
    subst (λ (l : List ℤ). All (FitsSigned w32) l) (take_all c.loop-entry.entry-index c.args.entries.now (omega arith)) c.loop-entry.invariant
