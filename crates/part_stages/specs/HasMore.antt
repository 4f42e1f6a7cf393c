-- A job with more stages behind its own.
use Rattle.std.specs.Prelude.{ℕ, ℤ, ◌≡◌, All, map}
use Rattle.job.specs.Answers.{image}
use Rattle.job.specs.Pipeline.{Pipeline}
use Rattle.job.specs.Totals.{totals}
use Rattle.job.specs.Values.{value}
use Rattle.job.specs.Views.{stage_view}
use Rattle.job.specs.WellFormed.{IsFunction, IsJob, IsReadable}
use Rattle.joined_formulas.specs.Joins.{AreFormulasOf}
use Rattle.part_stages.specs.Parts.{job_with}
use Rattle.part_stages.specs.declared.part_stages.PartStages.{PartStages}

-- behind the stages of a job come functions, formulas of the stages are known, and its own stages have their values;
-- so it has the same picture and totals
pub record HasMore (job : Pipeline) (parts : PartStages) : Type 0 where
  pub formed : IsJob (job_with job parts)
  pub functions : All (λ s. IsFunction s.body) (map stage_view parts.stages.items)
  pub known : AreFormulasOf (job_with job parts) parts.known.items
  pub values : (g : ℕ) (r c : ℤ) → IsReadable job.stages g r c → value (job_with job parts) g r c ≡ value job g r c
  pub image : image (job_with job parts) ≡ image job
  pub totals : (g : ℕ) → totals (job_with job parts) g ≡ totals job g
