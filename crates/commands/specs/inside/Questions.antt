-- Questions about a job alone.
use Rattle.std.specs.Prelude.{ℕ, Bool}
use Rattle.command_outcomes.specs.Outcomes.{JobSaying}
use Rattle.commands.specs.Listing.{SaysCheck}
use Rattle.commands.specs.Planning.{SaysPlan}
use Rattle.command_jobs.specs.Results.{SaysResult}
use Rattle.commands.specs.declared.question.JobQuestion.{JobQuestion}
use Rattle.commands.specs.declared.question.JobQuestion.TheVariants as questions

-- the reply to a question, where all functions are to be stored or not, and by this percentage
abbrev pub saying_of : JobQuestion → Bool → ℕ → JobSaying
saying_of questions.Answer stored percent = SaysResult
saying_of questions.Stages stored percent = SaysCheck
saying_of questions.Plan stored percent = SaysPlan stored percent
