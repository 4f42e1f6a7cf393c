use Rattle.std.proofs.Common.{List, ◌∙◌, subst}
use Rattle.domains.specs.Area.{HoldsPoint}
use Rattle.pipe_checks.specs.declared.access.Access.{Access}
use Rattle.pipe_bounds.specs.inside.Taken.{AnswersReads}
use Rattle.pipe_bounds.specs.StageBounds.{domains_in}
use Rattle.pipe_bounds.proofs.reader.BoundsChecker.check_expr_reads.Goals as goal

pub returns : goal.returns
returns c =
    let self = c.args.self.now in
    subst (λ (xs : List Access). AnswersReads (domains_in self.found.now) (HoldsPoint c.args.area.now) xs self.stage c.args.case
    c.check_accesses.result) (c.deref.ensures.value ∙ c.in_ok-accesses.ensures) c.check_accesses.ensures
