use Rattle.std.proofs.Common.{Option, subst}
use Rattle.domains.specs.Area.{HoldsPoint}
use Rattle.domains.specs.declared.area.Area.{Area}
use Rattle.pipe_tree.specs.Tree.{view, branch}
use Rattle.pipe_checks.specs.Accesses.{accesses_of}
use Rattle.pipe_bounds.specs.Boxes.{BoundsHold}
use Rattle.pipe_bounds.specs.InBounds.{IsInBox, branch_case}
use Rattle.pipe_bounds.specs.StageBounds.{IsBox, domains_in}
use Rattle.pipe_bounds.proofs.Firsts.{same_box}
use Rattle.pipe_bounds.proofs.Spanning.{near_box}
use Rattle.pipe_bounds.proofs.reader.BoundsChecker.check_case_reads.Goals as goal

pub check_expr_reads-requires-clause-near : goal.check_expr_reads-requires-clause-near
check_expr_reads-requires-clause-near c =
    let self = c.args.self.now in
    let tests = (branch c.args.case.now).condition in
    let box = subst (λ (o : Option Area). IsBox self.params.now c.args.row.now self.domain.now tests o) c.in-Some.is c.requires.area in
    near_box (BoundsHold self.params.now c.args.row.now tests) self.domain.now c.in-Some.area box.points box.area c.requires.near

pub returns-in-Some : goal.returns-in-Some
returns-in-Some c =
    let self = c.args.self.now in
    let inside = IsInBox self.params.now self.domain.now (branch_case self.stages.now c.args.row.now (branch c.args.case.now)) in
    let box =
    subst (λ (o : Option Area). IsBox self.params.now c.args.row.now self.domain.now (branch c.args.case.now).condition o) c.in-Some.is
    c.requires.area in
    same_box (domains_in self.found.now) (HoldsPoint c.in-Some.area) inside (accesses_of self.stages.now (view c.args.case.now.value))
    self.stage c.args.number c.check_expr_reads.result box.points c.check_expr_reads.ensures

pub returns-in-None : goal.returns-in-None
returns-in-None c =
    let self = c.args.self.now in
    let box =
    subst (λ (o : Option Area). IsBox self.params.now c.args.row.now self.domain.now (branch c.args.case.now).condition o) c.in-None.is
    c.requires.area in
    λ m access there r k inside x y row column. absurd (box.points r k inside)
