-- The verdicts on the facts of an input are those by the catalog of its job.
use Rattle.std.proofs.Common.{◌≡◌, [], ◌∷◌, ℕ, List, refl, ap, subst, ◌∙◌}
use Rattle.catalog.specs.Entries.{Entry, entry_of}
use Rattle.domains.specs.Sides.{Sides}
use Rattle.fact_audit.specs.Verdicts.{AreVerdicts}
use Rattle.fact_audit.specs.declared.verdict.Verdict.{Verdict}
use Rattle.identity.specs.declared.job_ids.JobId.{JobId}
use Rattle.command_inputs.specs.Giving.{Given}
use Rattle.fact_commands.specs.FactInput.{IsReadAudit}
use Rattle.fact_commands.specs.FactSayings.{IsSaidOfAudit}
use Rattle.job.specs.Kept.{pipeline_in}
use Rattle.job.specs.WellFormed.{IsJob}
use Rattle.job.specs.declared.job.Job.{Job}
use Rattle.tile_fact.specs.declared.fact.Fact.{Fact}
use Rattle.command_inputs.specs.JobCatalog.{catalog_of}
use Rattle.fact_commands.specs.Auditing.{SaysVerdicts}
use Rattle.fact_commands.specs.Verdicts.{IsFinding, audit_lines}
use Rattle.fact_commands.specs.declared.finding.AuditFinding.{AuditFinding}

pub judged_said : (input : List ℕ) (given : List Given) (sides : Sides) (job : Job) (retired : List JobId) (facts : List Fact)
    (catalog : List Entry)
    (verdicts : List Verdict) (found : AuditFinding) → IsReadAudit input given sides job retired facts → IsJob (pipeline_in job)
    → catalog ≡ entry_of job ∷ [] → AreVerdicts catalog facts verdicts → IsFinding found verdicts
    → IsSaidOfAudit SaysVerdicts given sides found input (audit_lines facts verdicts retired)
judged_said input given sides job retired facts catalog verdicts found read is same judged finds =
    let one : entry_of job ∷ [] ≡ catalog_of read.tree (pipeline_in job) =
    ap (λ t. record { text = t; pipeline = pipeline_in job } ∷ []) read.text in
    record {
      tree = read.tree;
      job = pipeline_in job;
      retired = retired;
      facts = facts;
      is_job = is;
      of_input = read.of_input;
      says = record {
        verdicts = verdicts;
        judged = subst (λ (entries : List Entry). AreVerdicts entries facts verdicts) (same ∙ one) judged;
        finds = finds;
        says = refl;
      };
    }
