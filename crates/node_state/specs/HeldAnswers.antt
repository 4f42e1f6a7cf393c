-- What a state answers for a job, and why there is no answer. A job is identified by its program's identity and its pipeline.
use Rattle.std.specs.Prelude.{◌≡◌, ℕ, List, true, false}
use Rattle.accumulators.specs.declared.answer.Answer.{Answer}
use Rattle.identity.specs.declared.job_ids.JobId.{JobId}
use Rattle.job.specs.Identity.{input_id}
use Rattle.job.specs.Pipeline.{Pipeline}
use Rattle.held_facts.specs.HeldAnswers as held
use Rattle.held_facts.specs.declared.answer_fault.AnswerFault.{AnswerFault}
use Rattle.held_facts.specs.declared.answer_fault.AnswerFault.TheVariants as fault
use Rattle.node_state.specs.States.{State, retires}

-- the identities of a job
abbrev pub ids_by : List ℕ → Pipeline → JobId
ids_by program job = record { program = program; input = input_id job }

-- the job is not retired, and the answer is that of the held facts
abbrev pub IsHeldAnswer : State → List ℕ → Pipeline → Answer → Type 0
IsHeldAnswer s program job answer = (retires s (ids_by program job) ≡ false) × held.IsHeldAnswer s.facts program job answer

-- the job is retired; or it is not, and the fault is that of the held facts
abbrev pub IsAnswerFault : State → List ℕ → Pipeline → AnswerFault → Type 0
IsAnswerFault s program job fault.Retired = retires s (ids_by program job) ≡ true
IsAnswerFault s program job other = (retires s (ids_by program job) ≡ false) × held.IsAnswerFault s.facts program job other
