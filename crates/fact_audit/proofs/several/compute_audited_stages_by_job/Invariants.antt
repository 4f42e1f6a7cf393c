-- The stages of the jobs so far.
use Rattle.fact_audit.specs.inside.Ready.{AreStagesFor}
use Rattle.fact_audit.proofs.Pairing.{IsBegun}
use Rattle.fact_audit.proofs.several.compute_audited_stages_by_job.Given as goal

abbrev pub invariant-loop-index : goal.invariant-loop-index
invariant-loop-index l = IsBegun (AreStagesFor l.facts) l.catalog l.known.items l.index
