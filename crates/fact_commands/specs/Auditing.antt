-- The output of `audit`: whether each fact of the supplied fact files is true of the job beside them, and which jobs the files
-- retire.
use Rattle.std.specs.Prelude.{◌≡◌, ℕ, List}
use Rattle.fact_audit.specs.Verdicts.{AreVerdicts}
use Rattle.fact_audit.specs.declared.verdict.Verdict.{Verdict}
use Rattle.job.specs.Pipeline.{Pipeline}
use Rattle.command_inputs.specs.JobCatalog.{catalog_of}
use Rattle.pipe_tree.specs.Tree.{Declaration}
use Rattle.identity.specs.declared.job_ids.JobId.{JobId}
use Rattle.tile_fact.specs.declared.fact.Fact.{Fact}
use Rattle.fact_commands.specs.Verdicts.{IsFinding, audit_lines}
use Rattle.fact_commands.specs.declared.finding.AuditFinding.{AuditFinding}

-- the lines of the verdicts on the facts by the job of this program, and those of the retired jobs; `found` is whether a verdict
-- is that a fact is false
pub record SaysVerdicts (tree : List Declaration) (job : Pipeline) (retired : List JobId) (facts : List Fact) (found : AuditFinding)
    (bytes : List ℕ) : Type 0 where
  pub verdicts : List Verdict
  pub judged : AreVerdicts (catalog_of tree job) facts verdicts
  pub finds : IsFinding found verdicts
  pub says : bytes ≡ audit_lines facts verdicts retired
