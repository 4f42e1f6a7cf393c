use Rattle.std.proofs.Common.{length, refl}
use Rattle.narrow_eval.proofs.NarrowReady.{ready_from}
use Rattle.narrow_eval.proofs.narrow_cases.evaluate_narrow_function.Goals as goal

pub evaluate_narrow_cases-requires-clause-ready : goal.evaluate_narrow_cases-requires-clause-ready
evaluate_narrow_cases-requires-clause-ready g c =
    ready_from (g.S.NarrowSource.has c.args.source.now) (g.S.NarrowSource.samples c.args.source.now) c.args.points.now.row
    c.args.points.now.col (length c.args.out.now) (length c.args.temps.now) c.args.function.now.cases.items c.args.function.now.otherwise
    _ _ c.deref.ensures.value refl c.requires.function
