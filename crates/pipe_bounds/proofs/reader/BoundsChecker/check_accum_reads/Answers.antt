use Rattle.std.proofs.Common.{List, ◌++◌, refl, sym, ◌∙◌, ap, subst}
use Rattle.domains.specs.Area.{HoldsPoint}
use Rattle.pipe_tree.specs.Tree.{view}
use Rattle.pipe_checks.specs.declared.access.Access.{Access}
use Rattle.pipe_checks.specs.Accesses.{accesses_of}
use Rattle.pipe_bounds.specs.InBounds.{whole_case}
use Rattle.pipe_bounds.specs.inside.Taken.{AreSound, AnswersReads}
use Rattle.pipe_bounds.proofs.Firsts.{one_case}
use Rattle.pipe_bounds.specs.StageBounds.{domains_in}
use Rattle.pipe_bounds.proofs.reader.BoundsChecker.check_accum_reads.Goals as goal

pub check_accesses-requires-clause-sound : goal.check_accesses-requires-clause-sound
check_accesses-requires-clause-sound c =
    let stages = c.args.self.now.stages.now in
    let value = accesses_of stages (view c.args.accum.now.value) in
    let bin = accesses_of stages (view c.args.accum.now.bin) in
    let found =
    c.deref.ensures.value ∙ c.in_ok-push_expr_accesses-2.ensures
    ∙ ap (λ (xs : List Access). xs ++ bin)
    (c.in_ok-push_expr_accesses.ensures ∙ ap (λ (xs : List Access). xs ++ value) c.new-found.ensures.items) in
    let sound = c.requires.sound 0 (whole_case c.args.accum.now.row.name (value ++ bin)) refl in
    subst (AreSound _) (sym found) sound

pub returns : goal.returns
returns c =
    let self = c.args.self.now in
    let value = accesses_of self.stages.now (view c.args.accum.now.value) in
    let bin = accesses_of self.stages.now (view c.args.accum.now.bin) in
    let found =
    c.deref.ensures.value ∙ c.in_ok-push_expr_accesses-2.ensures
    ∙ ap (λ (xs : List Access). xs ++ bin)
    (c.in_ok-push_expr_accesses.ensures ∙ ap (λ (xs : List Access). xs ++ value) c.new-found.ensures.items) in
    one_case self.params.now (domains_in self.found.now) self.domain.now c.args.accum.now.row.name (value ++ bin) self.stage
    c.check_accesses.result
    (subst (λ (xs : List Access). AnswersReads (domains_in self.found.now) (HoldsPoint self.domain.now) xs self.stage 0 c.check_accesses.result)
    found c.check_accesses.ensures)
