use Rattle.job.specs.Kept.{pipeline_in}
use Rattle.joined_formulas.specs.Joins.{AreFormulasOf}
use Rattle.normal_jobs.proofs.joins.push_normal_joins_of_rank.Given as goal

abbrev pub invariant-loop-number : goal.invariant-loop-number
invariant-loop-number l = AreFormulasOf (pipeline_in l.job) l.fn.known.items → AreFormulasOf (pipeline_in l.job) l.known.items
