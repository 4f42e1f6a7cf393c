-- Programs for phases.
use Rattle.std.specs.Prelude.{ℕ, ◌≡◌, Some, List, map, slice_get}
use Rattle.std.specs.Option.{option_map}
use Rattle.job.specs.Views.{case_view, formula_view}
use Rattle.job.specs.declared.stage.Function.{Function}
use Rattle.narrow_eval.specs.NarrowPrograms.{IsProgramOf}
use Rattle.narrow_eval.specs.declared.narrow_case.NarrowFunction.{NarrowFunction}

-- each program computes the function of its number
abbrev pub AreProgramsOf : List NarrowFunction → List Function → Type 0
AreProgramsOf programs functions =
    (p : ℕ) (f : Function) (q : NarrowFunction) → slice_get functions p ≡ Some f → slice_get programs p ≡ Some q
    → IsProgramOf q (map case_view f.cases.items) (option_map formula_view f.otherwise)
