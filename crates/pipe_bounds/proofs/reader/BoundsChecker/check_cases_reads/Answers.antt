use Rattle.std.proofs.Common.{◌<◌, ◌≤◌, map, get_or, refl, sym, ◌∙◌, ap, subst}
use Rattle.std.specs.Option.{option_map}
use Rattle.std.proofs.lemmas.List.{length-map}
use Rattle.std.proofs.lemmas.Option.{slice_get-map, slice_get-get_or}
use Rattle.std.proofs.lemmas.Result.{err_from_is_err_and}
use Rattle.pipe_tree.specs.Tree.{branch, branches}
use Rattle.pipe_bounds.specs.InBounds.{ReadCase, AllStay, IsInBox, branch_case}
use Rattle.pipe_bounds.proofs.Firsts.{case_at, cases_end, first_case}
use Rattle.pipe_checks.proofs.Places.{all_of_them}
use Rattle.domains.proofs.Places.{all_more, here_is}
use Rattle.pipe_bounds.specs.StageBounds.{domains_in}
use Rattle.pipe_bounds.proofs.reader.BoundsChecker.check_cases_reads.Goals as goal

pub bounds-self-number : goal.bounds-self-number
bounds-self-number c =
    subst (λ n. c.loop-number.number < n) (sym (c.requires.boxes.each ∙ length-map c.args.cases.now branch)) c.loop-number-test.true

pub check_case_reads-requires-clause-area : goal.check_case_reads-requires-clause-area
check_case_reads-requires-clause-area c =
    let boxes = c.args.self.now.boxes.now in
    let i = c.loop-number.number in
    let x = c.index-cases-number.result in
    let o = c.index-self-number.result in
    let less = subst (λ n. i < n) (sym (c.requires.boxes.each ∙ length-map c.args.cases.now branch)) c.loop-number-test.true in
    c.requires.boxes.box i (branch x) (get_or boxes i o)
    (slice_get-map branch c.args.cases.now i
    ∙ ap (option_map branch) (here_is c.args.cases.now c.args.cases.now i x refl c.loop-number-test.true c.index-cases-number.is))
    (slice_get-get_or boxes i o less)

pub check_case_reads-requires-clause-sound : goal.check_case_reads-requires-clause-sound
check_case_reads-requires-clause-sound c =
    let self = c.args.self.now in
    let i = c.loop-number.number in
    let x = c.index-cases-number.result in
    c.requires.sound i (branch_case self.stages.now c.args.row.now (branch x))
    (case_at self.stages.now c.args.row.now c.args.cases.now i x c.loop-number-test.true c.index-cases-number.is)

pub returns-in_err-check_case_reads : goal.returns-in_err-check_case_reads
returns-in_err-check_case_reads c =
    let self = c.args.self.now in
    let i = c.loop-number.number in
    let x = c.index-cases-number.result in
    let there = case_at self.stages.now c.args.row.now c.args.cases.now i x c.loop-number-test.true c.index-cases-number.is in
    let p = err_from_is_err_and c.from_residual.result c.from_residual.ensures.1 in
    rw (p.1, p.2) (first_case self.params.now (domains_in self.found.now) self.domain.now
    (map (branch_case self.stages.now c.args.row.now) (branches c.args.cases.now)) self.stage i
    (branch_case self.stages.now c.args.row.now (branch x)) c.in_err-check_case_reads.field-0.0 there c.loop-number.invariant
    c.in_err-check_case_reads.ensures)

pub loop-number-preserved : goal.loop-number-preserved
loop-number-preserved c =
    let self = c.args.self.now in
    let i = c.loop-number.number in
    let x = c.index-cases-number.result in
    let there = case_at self.stages.now c.args.row.now c.args.cases.now i x c.loop-number-test.true c.index-cases-number.is in
    all_more (λ n (y : ReadCase). AllStay (domains_in self.found.now) (IsInBox self.params.now self.domain.now y) y.accesses)
    (map (branch_case self.stages.now c.args.row.now) (branches c.args.cases.now)) i
    (branch_case self.stages.now c.args.row.now (branch x)) there c.in_ok-check_case_reads.ensures c.loop-number.invariant

pub returns : goal.returns
returns c =
    let self = c.args.self.now in
    let i = c.loop-number.number in
    let end = subst (λ n. n ≤ i) (sym (cases_end self.stages.now c.args.row.now c.args.cases.now)) c.loop-number-test.false in
    all_of_them (λ n (y : ReadCase). AllStay (domains_in self.found.now) (IsInBox self.params.now self.domain.now y) y.accesses)
    (map (branch_case self.stages.now c.args.row.now) (branches c.args.cases.now)) i end c.loop-number.invariant
