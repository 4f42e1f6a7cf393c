use Rattle.std.proofs.Common.{rules, arith, ℕ, ℤ, ◌≡◌, ◌+ℤ◌, ◌+◌, ◌-◌, ◌<◌, ◌≤◌, pos, length, take, drop, map, ap, ◌∙◌, sym, subst}
use Rattle.std.specs.Prelude.{Option, Some, if◌then◌else◌}
use Rattle.domains.specs.Area.{HoldsPoint}
use Rattle.domains.specs.declared.area.Area.{Area}
use Rattle.job.specs.Values.{all_passed, formula_value}
use Rattle.job.specs.Views.{test_view}
use Rattle.narrow_eval.specs.NarrowPrograms.{program_formula, program_case}
use Rattle.row_loops.specs.Rows.{at}
use Rattle.tile_eval.specs.Cases.{InBox}
use Rattle.narrow_eval.specs.NarrowCases.{IsNarrowCase}
use Rattle.tile_eval.proofs.Covering.{cut_len, cut_at, to_after, from_after, roomy_less, part_taken, no_test}
use Rattle.narrow_eval.proofs.narrow_points.NarrowPoints.overwrite_narrow_case.Goals as goal

pub overwrite_narrow_case_in_box-requires-clause-inside : goal.overwrite_narrow_case_in_box-requires-clause-inside
overwrite_narrow_case_in_box-requires-clause-inside g c = λ k h.
    let from : ℕ = c.in-Some-find_narrow_case_interval.from in
    let some = c.in-Some-find_narrow_case_interval.ensures.some in
    let within : c.in-Some-find_narrow_case_interval.to ≤ length c.args.out.now = rw c.requires.fits c.in-Some-find_narrow_case_interval.ensures.some.1 in
    let cut : k < c.in-Some-find_narrow_case_interval.to - c.in-Some-find_narrow_case_interval.from =
    subst (λ (n : ℕ). k < n) (cut_len c.in-Some-find_narrow_case_interval.from c.in-Some-find_narrow_case_interval.to c.args.out.now some.0 within) h in
    let l : c.in-Some-find_narrow_case_interval.from + k < length c.args.out.now = omega arith in
    let box : c.args.case.now.area ≡ Some c.in-Some.area = search rules in
    let short : c.in-Some-find_narrow_case_interval.from + k < c.args.self.now.points.len = omega (arith, c.requires.fits) in
    let held : HoldsPoint c.in-Some.area c.args.self.now.points.row (c.args.self.now.points.col +ℤ pos (c.in-Some-find_narrow_case_interval.from + k)) =
    (c.in-Some-find_narrow_case_interval.ensures.inside (c.in-Some-find_narrow_case_interval.from + k) short).1 (omega arith, omega arith) in
    let sum : c.in-Some-find_narrow_case_interval.from + k ≡ c.in-Some-find_narrow_case_interval.from + k = omega arith in
    subst (λ (o : Option Area). InBox o c.slice_points-points.result.row (c.slice_points-points.result.col +ℤ pos k)) (sym box)
    (to_after (HoldsPoint c.in-Some.area) c.args.self.now.points.row c.args.self.now.points.col c.slice_points-points.result.row
    c.slice_points-points.result.col
    c.in-Some-find_narrow_case_interval.from k (c.in-Some-find_narrow_case_interval.from + k) c.slice_points-points.ensures.row c.slice_points-points.ensures.col sum held)

pub overwrite_narrow_case_in_box-requires-clause-ready : goal.overwrite_narrow_case_in_box-requires-clause-ready
overwrite_narrow_case_in_box-requires-clause-ready g c = λ k h.
    let some = c.in-Some-find_narrow_case_interval.ensures.some in
    let within : c.in-Some-find_narrow_case_interval.to ≤ length c.args.out.now = rw c.requires.fits c.in-Some-find_narrow_case_interval.ensures.some.1 in
    let cut : k < c.in-Some-find_narrow_case_interval.to - c.in-Some-find_narrow_case_interval.from =
    subst (λ (n : ℕ). k < n) (cut_len c.in-Some-find_narrow_case_interval.from c.in-Some-find_narrow_case_interval.to c.args.out.now some.0 within) h in
    let l : c.in-Some-find_narrow_case_interval.from + k < length c.args.out.now = omega arith in
    let sum : c.in-Some-find_narrow_case_interval.from + k ≡ c.in-Some-find_narrow_case_interval.from + k = omega arith in
    to_after (IsNarrowCase (g.S.NarrowSource.has c.args.self.now.source.now) (g.S.NarrowSource.samples c.args.self.now.source.now) (program_case c.args.case.now)) c.args.self.now.points.row
    c.args.self.now.points.col
    c.slice_points-points.result.row c.slice_points-points.result.col c.in-Some-find_narrow_case_interval.from k (c.in-Some-find_narrow_case_interval.from + k) c.slice_points-points.ensures.row
    c.slice_points-points.ensures.col sum
    (c.requires.case.0 (c.in-Some-find_narrow_case_interval.from + k) l)

pub overwrite_narrow_case_in_box-requires-clause-roomy : goal.overwrite_narrow_case_in_box-requires-clause-roomy
overwrite_narrow_case_in_box-requires-clause-roomy g c =
    let some = c.in-Some-find_narrow_case_interval.ensures.some in
    let within : c.in-Some-find_narrow_case_interval.to ≤ length c.args.out.now = rw c.requires.fits c.in-Some-find_narrow_case_interval.ensures.some.1 in
    let cut = cut_len c.in-Some-find_narrow_case_interval.from c.in-Some-find_narrow_case_interval.to c.args.out.now some.0 within in
    let le : length (take (c.in-Some-find_narrow_case_interval.to - c.in-Some-find_narrow_case_interval.from) (drop c.in-Some-find_narrow_case_interval.from c.args.out.now))
    ≤ length c.args.out.now = omega arith in
    roomy_less (length c.args.out.now) _ (length c.args.temps.now) (program_case c.args.case.now) le c.requires.case.1

pub returns-in-Some-find_narrow_case_interval : goal.returns-in-Some-find_narrow_case_interval
returns-in-Some-find_narrow_case_interval g c = λ k h.
    let some = c.in-Some-find_narrow_case_interval.ensures.some in
    let within : c.in-Some-find_narrow_case_interval.to ≤ length c.args.out.now = rw c.requires.fits c.in-Some-find_narrow_case_interval.ensures.some.1 in
    let a : ℕ = c.in-Some-find_narrow_case_interval.from in
    let cut = cut_len c.in-Some-find_narrow_case_interval.from c.in-Some-find_narrow_case_interval.to c.args.out.now some.0 within in
    let len : length c.overwrite_narrow_case_in_box.new.out ≡ c.in-Some-find_narrow_case_interval.to - c.in-Some-find_narrow_case_interval.from = c.overwrite_narrow_case_in_box.auto.out ∙ cut in
    let box : c.args.case.now.area ≡ Some c.in-Some.area = search rules in
    part_taken c.in-Some-find_narrow_case_interval.from c.in-Some-find_narrow_case_interval.to k c.args.out.now c.overwrite_narrow_case_in_box.new.out _ _ some.0 within len
    (λ low high.
    let sum : c.in-Some-find_narrow_case_interval.from + (k - c.in-Some-find_narrow_case_interval.from) ≡ k = omega arith in
    let short : k - c.in-Some-find_narrow_case_interval.from < c.in-Some-find_narrow_case_interval.to - c.in-Some-find_narrow_case_interval.from = omega arith in
    let l : k - c.in-Some-find_narrow_case_interval.from
    < length (take (c.in-Some-find_narrow_case_interval.to - c.in-Some-find_narrow_case_interval.from) (drop c.in-Some-find_narrow_case_interval.from c.args.out.now)) = rw cut short in
    from_after (λ r x. at c.overwrite_narrow_case_in_box.new.out (k - c.in-Some-find_narrow_case_interval.from) ≡ if all_passed (map test_view c.args.case.now.tests.items) r x
    then formula_value (g.S.NarrowSource.samples c.args.self.now.source.now) (program_formula c.args.case.now.program) r x else at
    c.args.out.now k)
    c.args.self.now.points.row c.args.self.now.points.col c.slice_points-points.result.row c.slice_points-points.result.col c.in-Some-find_narrow_case_interval.from (k -
    c.in-Some-find_narrow_case_interval.from) k
    c.slice_points-points.ensures.row c.slice_points-points.ensures.col sum
    (c.overwrite_narrow_case_in_box.ensures (k - c.in-Some-find_narrow_case_interval.from) l
    ∙ ap (λ (z : ℤ). if all_passed (map test_view c.args.case.now.tests.items) c.slice_points-points.result.row
    (c.slice_points-points.result.col +ℤ pos (k - c.in-Some-find_narrow_case_interval.from))
    then formula_value (g.S.NarrowSource.samples c.args.self.now.source.now) (program_formula c.args.case.now.program) c.slice_points-points.result.row
    (c.slice_points-points.result.col +ℤ pos (k - c.in-Some-find_narrow_case_interval.from)) else z)
    (cut_at c.in-Some-find_narrow_case_interval.from c.in-Some-find_narrow_case_interval.to k c.args.out.now low high within)))
    (λ out passed.
    let few : k < c.args.self.now.points.len = omega (arith, c.requires.fits) in
    let held : InBox (Some c.in-Some.area) c.args.self.now.points.row (c.args.self.now.points.col +ℤ pos k) =
    subst (λ (o : Option Area). InBox o c.args.self.now.points.row (c.args.self.now.points.col +ℤ pos k)) box
    ((c.requires.case.0 k h).passed passed) in
    let both = (c.in-Some-find_narrow_case_interval.ensures.inside k few).0 held in out both.0 both.1)

pub returns-in_default-find_narrow_case_interval : goal.returns-in_default-find_narrow_case_interval
returns-in_default-find_narrow_case_interval g c = λ k h.
    let box : c.args.case.now.area ≡ Some c.in-Some.area = search rules in
    let few : k < c.args.self.now.points.len = omega (arith, c.requires.fits) in
    no_test _ _ _ (λ passed. c.in_default-find_narrow_case_interval.ensures.none k few (subst
    (λ (o : Option Area). InBox o c.args.self.now.points.row (c.args.self.now.points.col +ℤ pos k)) box ((c.requires.case.0 k h).passed
    passed)))
