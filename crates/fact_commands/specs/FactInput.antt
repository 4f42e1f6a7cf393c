-- From the bytes of an input to its job, and to the facts that are to be judged by it.
use Rattle.std.specs.Prelude.{◌≡◌, ℕ, List}
use Rattle.domains.specs.Sides.{Sides}
use Rattle.fact_lines.specs.Texts.{IsJoin}
use Rattle.identity.specs.declared.job_ids.JobId.{JobId}
use Rattle.job.specs.Kept.{pipeline_in, program_text_in}
use Rattle.job.specs.Pipeline.{Pipeline}
use Rattle.job.specs.declared.job.Job.{Job}
use Rattle.pipe_print.specs.Canonical.{canonical}
use Rattle.pipe_tree.specs.Tree.{Declaration}
use Rattle.tile_fact.specs.declared.fact.Fact.{Fact}
use Rattle.command_inputs.specs.Giving.{Given}
use Rattle.command_inputs.specs.Input.{IsInputAround}

-- the middle section is fact files. `retired` are the jobs that they retire, and `facts` those of all other jobs in all files
pub record IsInputAudit (input : List ℕ) (given : List Given) (sides : Sides) (tree : List Declaration) (job : Pipeline)
    (retired : List JobId) (facts : List Fact) : Type 0 where
  pub lines : List ℕ
  pub around : IsInputAround input given sides tree job lines
  pub join : IsJoin lines retired facts

-- the job, the retired jobs and the facts of an input; the job keeps the canonical text of its program
pub record IsReadAudit (input : List ℕ) (given : List Given) (sides : Sides) (job : Job) (retired : List JobId) (facts : List Fact)
    : Type 0 where
  pub tree : List Declaration
  pub of_input : IsInputAudit input given sides tree (pipeline_in job) retired facts
  pub text : program_text_in job ≡ canonical tree
