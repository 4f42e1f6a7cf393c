-- An answer from its parts, of a state and a job that were kept for it.
use Rattle.std.proofs.Common.{◌≡◌, sym, ap, ◌∙◌, subst, map}
use Rattle.accumulators.specs.Answers.{gathered}
use Rattle.pictures.specs.Pictures.{given_image, GivesOutputs}
use Rattle.accumulators.specs.declared.answer.Answer.{Answer}
use Rattle.job.specs.Kept.{pipeline_in, program_id_in}
use Rattle.job.specs.declared.job.Job.{Job}
use Rattle.held_facts.specs.HeldAnswers.{AllAreReady, IsHeldAnswer, held_tiles, held_totals}
use Rattle.held_facts.specs.Facts.{FactSet}
use Rattle.held_facts.proofs.HeldPictures.{outputs_held}

pub outputs_kept : (s : FactSet) (job kept : Job) → kept ≡ job → AllAreReady s (program_id_in kept) (pipeline_in kept)
    → GivesOutputs (pipeline_in job) (held_tiles s (program_id_in kept) (pipeline_in kept))
outputs_kept s job kept same ready =
    subst (λ (j : Job). GivesOutputs (pipeline_in j) (held_tiles s (program_id_in kept) (pipeline_in kept))) same
    (outputs_held s (program_id_in kept) (pipeline_in kept) ready kept.well)

pub answer_kept : (s t : FactSet) (job kept : Job) (answer : Answer) → t ≡ s → kept ≡ job
    → AllAreReady t (program_id_in kept) (pipeline_in kept)
    → answer.picture ≡ given_image (pipeline_in job) (held_tiles t (program_id_in kept) (pipeline_in kept))
    → map gathered answer.totals.items ≡ held_totals t (program_id_in kept) (pipeline_in kept)
    → IsHeldAnswer s (program_id_in job) (pipeline_in job) answer
answer_kept s t job kept answer state same ready picture totals =
    subst (λ (x : FactSet). IsHeldAnswer x (program_id_in job) (pipeline_in job) answer) state
    (subst (λ (j : Job). IsHeldAnswer t (program_id_in j) (pipeline_in j) answer) same (record {
      ready = ready;
      picture =
          picture ∙ ap (λ (j : Job). given_image (pipeline_in j) (held_tiles t (program_id_in kept) (pipeline_in kept))) (sym same);
      totals = totals;
    }))
