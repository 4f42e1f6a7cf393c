use Rattle.std.proofs.Common.{ap}
use Rattle.std.specs.Option.{option_map}
use Rattle.narrow_eval.specs.NarrowPrograms.{program_formula}
use Rattle.narrow_eval.proofs.narrow_points.NarrowPoints.evaluate_narrow_otherwise.Goals as goal

pub run_narrow_program_on_part-requires-clause-reads : goal.run_narrow_program_on_part-requires-clause-reads
run_narrow_program_on_part-requires-clause-reads g c = λ k l low high.
    ((c.requires.other (program_formula c.in-Some.program) (ap (option_map program_formula) c.in-Some.is)).0 k l).0

pub run_narrow_program_on_part-requires-clause-narrow : goal.run_narrow_program_on_part-requires-clause-narrow
run_narrow_program_on_part-requires-clause-narrow g c = λ k l low high.
    ((c.requires.other (program_formula c.in-Some.program) (ap (option_map program_formula) c.in-Some.is)).0 k l).1
