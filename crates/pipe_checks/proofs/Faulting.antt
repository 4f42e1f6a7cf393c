-- The faults of parts are faults of the whole.
use Rattle.std.proofs.Common.{ℕ, ◌≡◌, true, Result, Ok, Err, OnOk, IfErr, List, sym, subst}
use Rattle.std.specs.List.{list_any}
use Rattle.pipe_tree.specs.Tree.{Declaration}
use Rattle.pipe_checks.specs.declared.fault.Violation.{Violation}
use Rattle.pipe_checks.specs.declared.fault.Violation.TheVariants as violation
use Rattle.pipe_checks.specs.declared.fault.CheckFault.{CheckFault}
use Rattle.pipe_checks.specs.declared.fault.CheckFault.TheVariants.{Unknown, Twice, Kind, BadKernel, BadLiteral, NoResult, Cycle, Memory}
use Rattle.pipe_checks.specs.declared.symbol.Symbol.{Symbol}
use Rattle.pipe_checks.specs.Names.{symbols_declared_by_items}
use Rattle.pipe_checks.specs.Accesses.{graph_of}
use Rattle.pipe_checks.specs.Checking.{NoneTwice, AllGood, IsFirstWrong, is_result, IsNamed, IsFault}
use Rattle.pipe_checks.specs.inside.Search.{fault_of, IsJudged, IsCyclic}

pub judged_named : (names : List Symbol) (ds : List Declaration) (r : Result (Unit {0}) CheckFault) → names ≡ symbols_declared_by_items ds
    → NoneTwice (symbols_declared_by_items ds) ds → IsJudged names ds r → OnOk r (IsNamed ds)
judged_named names ds (Ok u) same once h = record { once = once; good = subst (λ ns. AllGood ns ds) same h }
judged_named names ds (Err f) same once h = tt

pub judged_fault : (names : List Symbol) (ds : List Declaration) (r : Result (Unit {0}) CheckFault) → names ≡ symbols_declared_by_items ds
    → NoneTwice (symbols_declared_by_items ds) ds → IsJudged names ds r → IfErr r (IsFault ds)
judged_fault names ds (Ok u) same once h = tt
judged_fault names ds (Err f) same once h =
    subst (IsFault ds) (sym h.2) (by_wrong h.0 h.1 (subst (λ ns. IsFirstWrong ns ds h.0 h.1) same h.3))
  where
    by_wrong : (w : Violation) (n : ℕ) → IsFirstWrong (symbols_declared_by_items ds) ds w n → IsFault ds (fault_of w n)
    by_wrong violation.Unknown n first = (once, first)
    by_wrong violation.Kind n first = (once, first)
    by_wrong violation.BadKernel n first = (once, first)
    by_wrong violation.BadLiteral n first = (once, first)

pub cyclic_fault : (ds : List Declaration) (f : CheckFault) → IsNamed ds → list_any is_result ds ≡ true → IsCyclic (graph_of ds) f
    → IsFault ds f
cyclic_fault ds (Cycle c) named result h = (named, result, h)
cyclic_fault ds Memory named result h = tt
cyclic_fault ds (Twice n) named result h = absurd h
cyclic_fault ds (Unknown n) named result h = absurd h
cyclic_fault ds (Kind n) named result h = absurd h
cyclic_fault ds (BadKernel n) named result h = absurd h
cyclic_fault ds (BadLiteral n) named result h = absurd h
cyclic_fault ds NoResult named result h = absurd h

pub memory_fault : (ds : List Declaration) (f : CheckFault) → f ≡ Memory → IsFault ds f
memory_fault ds f e = subst (IsFault ds) (sym e) tt
