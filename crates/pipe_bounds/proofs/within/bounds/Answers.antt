use Rattle.std.proofs.lemmas.Result.{err_from_is_err_and}
use Rattle.pipe_bounds.specs.declared.fault.BoundFault.TheVariants.{ParamUnset}
use Rattle.pipe_bounds.proofs.Stages.{still_err}
use Rattle.pipe_bounds.proofs.within.bounds.Goals as goal

pub returns-in_err-find_program_bounds-clause-unset : goal.returns-in_err-find_program_bounds-clause-unset
returns-in_err-find_program_bounds-clause-unset c = λ n first.
    let p = err_from_is_err_and c.from_residual.result c.from_residual.ensures.1 in
    rw (p.1, p.2) (still_err c.in_err-find_program_bounds.field-0.0 (ParamUnset n) (c.in_err-find_program_bounds.ensures.unset n first))
