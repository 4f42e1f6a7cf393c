use Rattle.job.specs.Kept.{pipeline_in}
use Rattle.joined_formulas.specs.Joins.{AreFormulasOf}
use Rattle.normal_jobs.proofs.joins.list_normal_joins.Given as goal

abbrev pub invariant-loop-below : goal.invariant-loop-below
invariant-loop-below l = AreFormulasOf (pipeline_in l.job) l.known.items
