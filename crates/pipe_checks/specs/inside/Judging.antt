-- The results of checking places one after the other: only contracts of private functions cite this.
use Rattle.std.specs.Prelude.{Option, Some, None, Result, Ok, Err, List, [], ◌∷◌}
use Rattle.pipe_checks.specs.declared.symbol.Symbol.{Symbol}
use Rattle.pipe_checks.specs.declared.fault.Violation.{Violation}
use Rattle.pipe_checks.specs.declared.uses.ItemVariables.{ItemVariables}
use Rattle.pipe_checks.specs.Uses.{Place, wrong_at}

-- Ok, or the fault
abbrev pub Verdict : Type 0
Verdict = Result (Unit {0}) Violation

abbrev pub verdict : Option Violation → Verdict
verdict None = Ok tt
verdict (Some wrong) = Err wrong

-- one verdict and then another: the first that is a fault decides
abbrev pub and_then : Verdict → Verdict → Verdict
and_then (Ok u) v = v
and_then (Err e) v = Err e

abbrev pub judged : List Symbol → ItemVariables → List Place → Verdict
judged names locals [] = Ok tt
judged names locals (p ∷ ps) = and_then (verdict (wrong_at names locals p)) (judged names locals ps)
