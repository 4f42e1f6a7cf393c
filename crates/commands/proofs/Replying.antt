-- A command writes what it writes also where its answer is told in another way.
use Rattle.std.proofs.Common.{◌≡◌, List, ℕ, Option, Result, Ok, Err, refl, subst, sym}
use Rattle.command_outcomes.specs.Outcomes.{CountsRead, CountsWritten, IsOfInput, Refusing, Saying, Writes}
use Rattle.command_faults.specs.declared.faults.StreamFault.{StreamFault}
use Rattle.command_faults.specs.declared.faults.StreamFault.TheVariants as faults
use Rattle.command_inputs.specs.Giving.{Given}
use Rattle.command_line.specs.declared.tasks.CommandTask.{CommandTask}
use Rattle.command_line.specs.declared.words.CommandRequest.{CommandRequest}
use Rattle.command_line.specs.declared.words.CommandRequest.TheVariants.{Merge, Job}
use Rattle.command_line.specs.declared.words.JobRequest.{JobRequest}
use Rattle.commands.specs.Sayings.{refusing_by, refusing_of_task, saying_by, saying_of_task}
use Rattle.commands.specs.Successes.{HasRunTask, finding_of, saying_success_by}
use Rattle.commands.specs.declared.success.RunCommandSuccess.{RunCommandSuccess}
use Rattle.commands.specs.declared.success.RunCommandSuccess.TheVariants.{Found}
use Rattle.commands.specs.inside.Telling.{told_as}
use Rattle.fact_commands.specs.FactFaults.{refusing_merge}
use Rattle.fact_commands.specs.Merging.{saying_join}
use Rattle.fact_commands.specs.declared.finding.AuditFinding.{AuditFinding}
use Rattle.fact_commands.specs.declared.finding.AuditFinding.TheVariants.{NoFalse}

of_input_as : (known : Option (List ℕ)) (P Q : List ℕ → Type 0) → ((input : List ℕ) → P input → Q input) → IsOfInput known P
    → IsOfInput known Q
of_input_as known P Q so is = record { input = is.input; all = is.all; within = is.within; holds = so is.input is.holds }

pub written_as : {A B : Type 0} (f : A → B) (Says : Saying A) (Other : Saying B) (Refuses : Refusing) (known : Option (List ℕ))
    (r : Result A StreamFault) (old new : Option (List ℕ))
    → ((answer : A) (input bytes : List ℕ) → Says answer input bytes → Other (f answer) input bytes)
    → Writes Says Refuses known r old new → Writes Other Refuses known (told_as f r) old new
written_as f Says Other Refuses known (Ok answer) old new so wrote =
    record {
      bytes = wrote.bytes;
      said =
          of_input_as known (λ input. Says answer input wrote.bytes) (λ input. Other (f answer) input wrote.bytes)
          (λ input. so answer input wrote.bytes) wrote.said;
      taken = wrote.taken;
    }
written_as f Says Other Refuses known (Err faults.Write) old new so wrote =
    record {
      answer = f wrote.answer;
      bytes = wrote.bytes;
      said =
          of_input_as known (λ input. Says wrote.answer input wrote.bytes) (λ input. Other (f wrote.answer) input wrote.bytes)
          (λ input. so wrote.answer input wrote.bytes) wrote.said;
      taken = wrote.taken;
    }
written_as f Says Other Refuses known (Err faults.Read) old new so wrote = wrote
written_as f Says Other Refuses known (Err faults.TooLong) old new so wrote = wrote
written_as f Says Other Refuses known (Err faults.Memory) old new so wrote = wrote
written_as f Says Other Refuses known (Err faults.NoSeparator) old new so wrote = wrote
written_as f Says Other Refuses known (Err (faults.Program x)) old new so wrote = wrote
written_as f Says Other Refuses known (Err (faults.Tables x)) old new so wrote = wrote
written_as f Says Other Refuses known (Err (faults.Picture x)) old new so wrote = wrote
written_as f Says Other Refuses known (Err (faults.Check x)) old new so wrote = wrote
written_as f Says Other Refuses known (Err (faults.Param x)) old new so wrote = wrote
written_as f Says Other Refuses known (Err (faults.Bind x)) old new so wrote = wrote
written_as f Says Other Refuses known (Err (faults.Facts x)) old new so wrote = wrote
written_as f Says Other Refuses known (Err (faults.Script x)) old new so wrote = wrote
written_as f Says Other Refuses known (Err (faults.Farm x)) old new so wrote = wrote

pub reads_as : {A B : Type 0} (f : A → B) (r : Result A StreamFault) (old new : ℕ) → CountsRead r old new
    → CountsRead (told_as f r) old new
reads_as {A = A} f (Ok done) old new counts = counts
reads_as {A = A} {B = B} f (Err fault) old new counts =
    elim fault as (λ (e : StreamFault). CountsRead {X = A} (Err e) old new → CountsRead {X = B} (Err e) old new) [
      | faults.Read ↦ λ c. c
      | faults.TooLong ↦ λ c. c
      | faults.NoSeparator ↦ λ c. c
      | faults.Program x ↦ λ c. c
      | faults.Tables x ↦ λ c. c
      | faults.Picture x ↦ λ c. c
      | faults.Check x ↦ λ c. c
      | faults.Param x ↦ λ c. c
      | faults.Bind x ↦ λ c. c
      | faults.Facts x ↦ λ c. c
      | faults.Script x ↦ λ c. c
      | faults.Farm x ↦ λ c. c
      | faults.Memory ↦ λ c. c
      | faults.Write ↦ λ c. c
    ] counts

pub writes_as : {A B : Type 0} (f : A → B) (r : Result A StreamFault) (old new : ℕ) → CountsWritten r old new
    → CountsWritten (told_as f r) old new
writes_as {A = A} f (Ok done) old new counts = counts
writes_as {A = A} {B = B} f (Err fault) old new counts =
    elim fault as (λ (e : StreamFault). CountsWritten {X = A} (Err e) old new → CountsWritten {X = B} (Err e) old new) [
      | faults.Read ↦ λ c. c
      | faults.TooLong ↦ λ c. c
      | faults.NoSeparator ↦ λ c. c
      | faults.Program x ↦ λ c. c
      | faults.Tables x ↦ λ c. c
      | faults.Picture x ↦ λ c. c
      | faults.Check x ↦ λ c. c
      | faults.Param x ↦ λ c. c
      | faults.Bind x ↦ λ c. c
      | faults.Facts x ↦ λ c. c
      | faults.Script x ↦ λ c. c
      | faults.Farm x ↦ λ c. c
      | faults.Memory ↦ λ c. c
      | faults.Write ↦ λ c. c
    ] counts

-- ---- what a request's command leaves

-- one of fact files alone
pub merge_success : (request : CommandRequest) (known : Option (List ℕ)) (done : Result (Unit {0}) StreamFault)
    (r : Result RunCommandSuccess StreamFault) (old new : Option (List ℕ))
    → request ≡ Merge → r ≡ told_as (λ answer. Found NoFalse) done → Writes saying_join refusing_merge known done old new
    → Writes (saying_success_by request) (refusing_by request) known r old new
merge_success request known done r old new is told wrote =
    let Wrote : CommandRequest → Result RunCommandSuccess StreamFault → Type 0 = λ q x. Writes (saying_success_by q) (refusing_by q) known x old new in
    subst (λ q. Wrote q r) (sym is)
    (subst (λ x. Wrote Merge x) (sym told)
    (written_as (λ answer. Found NoFalse) saying_join (saying_success_by Merge) refusing_merge known done old new
    (λ answer input bytes says. ((refl, says), tt)) wrote))

-- one of a task
pub task_success : {A : Type 0} (f : A → RunCommandSuccess) (Says : Saying A) (request : CommandRequest) (job : JobRequest)
    (task : CommandTask) (given : List Given) (known : Option (List ℕ)) (done : Result A StreamFault)
    (r : Result RunCommandSuccess StreamFault) (old new : Option (List ℕ))
    → request ≡ Job job → job.task ≡ task → given ≡ job.parameters.items → r ≡ told_as f done
    → ((answer : A) (input bytes : List ℕ) → Says answer input bytes
    → saying_of_task task job.options given (finding_of (f answer)) input bytes × HasRunTask task job.options given (f answer) input bytes)
    → Writes Says (refusing_of_task task job.options given) known done old new
    → Writes (saying_success_by request) (refusing_by request) known r old new
task_success f Says request job task given known done r old new is is_task is_given told so wrote =
    let Other : CommandTask → List Given → Saying RunCommandSuccess = λ t g success input bytes.
    saying_of_task t job.options g (finding_of success) input bytes × HasRunTask t job.options g success input bytes in
    let Wrote : CommandTask → List Given → Result RunCommandSuccess StreamFault → Type 0 = λ t g x.
    Writes (Other t g) (refusing_of_task t job.options g) known x old new in
    subst (λ (q : CommandRequest). Writes (saying_success_by q) (refusing_by q) known r old new) (sym is)
    (subst (λ x. Wrote job.task job.parameters.items x) (sym told)
    (subst (λ g. Wrote job.task g (told_as f done)) is_given
    (subst (λ t. Wrote t given (told_as f done)) (sym is_task)
    (written_as f Says (Other task given) (refusing_of_task task job.options given) known done old new so wrote))))

-- what was found by any of them
pub found_success : (request : CommandRequest) (known : Option (List ℕ)) (done : Result RunCommandSuccess StreamFault)
    (r : Result AuditFinding StreamFault) (old new : Option (List ℕ)) → r ≡ told_as finding_of done
    → Writes (saying_success_by request) (refusing_by request) known done old new
    → Writes (saying_by request) (refusing_by request) known r old new
found_success request known done r old new told wrote =
    subst (λ (x : Result AuditFinding StreamFault). Writes (saying_by request) (refusing_by request) known x old new) (sym told)
    (written_as finding_of (saying_success_by request) (saying_by request) (refusing_by request) known done old new
    (λ success input bytes says. says.0) wrote)
