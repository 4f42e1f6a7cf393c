use Rattle.std.proofs.Common.{length, sym, subst}
use Rattle.pipe_tree.specs.declared.tree.Item.{Item}
use Rattle.pipe_tree.specs.Tree.{declaration}
use Rattle.pipe_bounds.specs.InBounds.{item_cases}
use Rattle.pipe_bounds.specs.StageBounds.{HasBoxes, domains_in}
use Rattle.pipe_bounds.specs.inside.Taken.{AreSoundCases, AnswersCases}
use Rattle.pipe_bounds.proofs.reader.BoundsChecker.check_item_reads.Goals as goal

pub check_accum_reads-requires-clause-sound : goal.check_accum_reads-requires-clause-sound
check_accum_reads-requires-clause-sound c =
    let self = c.args.self.now in
    subst (λ (i : Item). AreSoundCases (length self.found.now) (item_cases self.stages.now (declaration i))) c.in-Accum.is c.requires.sound

pub check_func_reads-requires-clause-boxes : goal.check_func_reads-requires-clause-boxes
check_func_reads-requires-clause-boxes c =
    let self = c.args.self.now in
    subst (λ (i : Item). HasBoxes self.params.now (declaration i) self.domain.now self.boxes.now) c.in-Func.is c.requires.boxes

pub returns-in-Func : goal.returns-in-Func
returns-in-Func c =
    let self = c.args.self.now in
    subst (λ (i : Item). AnswersCases self.params.now (domains_in self.found.now) self.domain.now
    (item_cases self.stages.now (declaration i)) self.stage c.check_func_reads.result) (sym c.in-Func.is) c.check_func_reads.ensures

pub returns-in-Accum : goal.returns-in-Accum
returns-in-Accum c =
    let self = c.args.self.now in
    subst (λ (i : Item). AnswersCases self.params.now (domains_in self.found.now) self.domain.now
    (item_cases self.stages.now (declaration i)) self.stage c.check_accum_reads.result) (sym c.in-Accum.is) c.check_accum_reads.ensures
