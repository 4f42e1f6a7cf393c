-- What a command reports of a program, fact files and a picture.
use Rattle.std.specs.Prelude.{ℕ, List}
use Rattle.domains.specs.Sides.{Sides}
use Rattle.identity.specs.declared.job_ids.JobId.{JobId}
use Rattle.job.specs.Pipeline.{Pipeline}
use Rattle.job.specs.WellFormed.{IsJob}
use Rattle.pipe_tree.specs.Tree.{Declaration}
use Rattle.tile_fact.specs.declared.fact.Fact.{Fact}
use Rattle.command_inputs.specs.Giving.{Given}
use Rattle.command_outcomes.specs.Outcomes.{Saying}
use Rattle.fact_commands.specs.FactInput.{IsInputAudit}

-- which bytes a command says of the tree of a program, of its job, and of retired jobs and facts, where it answers this
abbrev pub AuditSaying : Type 0 → Type 1
AuditSaying Answer = List Declaration → Pipeline → List JobId → List Fact → Answer → List ℕ → Type 0

-- the bytes are what a command says of the program, the job, the retired jobs and the facts of an input, where it answers this
pub record IsSaidOfAudit {Answer : Type 0} (Says : AuditSaying Answer) (given : List Given) (sides : Sides) (answer : Answer)
    (input bytes : List ℕ) : Type 0 where
  pub tree : List Declaration
  pub job : Pipeline
  pub retired : List JobId
  pub facts : List Fact
  pub is_job : IsJob job
  pub of_input : IsInputAudit input given sides tree job retired facts
  pub says : Says tree job retired facts answer bytes

abbrev pub saying_of_audit : {Answer : Type 0} → AuditSaying Answer → List Given → Sides → Saying Answer
saying_of_audit Says given sides answer input bytes = IsSaidOfAudit Says given sides answer input bytes
