-- Verdicts on facts.
use Rattle.std.specs.Prelude.{ℕ, ◌≡◌, List, Some, length, slice_get}
use Rattle.catalog.specs.Entries.{Entry, StandsAt, ids_in, ids_of}
use Rattle.identity.specs.declared.key.Key.{Key}
use Rattle.fact_audit.specs.declared.verdict.Verdict.{Verdict}
use Rattle.fact_audit.specs.declared.verdict.Verdict.TheVariants.{Foreign, Misshapen, True, False}
use Rattle.fact_audit.specs.Shapes.{FitsJob}
use Rattle.fact_audit.specs.TrueFacts.{HasJob, IsTrueOf, IsTrueFact}
use Rattle.job.specs.Pipeline.{Pipeline}
use Rattle.tile_fact.specs.declared.fact.Fact.{Fact}

-- the entry is that of the job that the key names
abbrev pub HasEntry : List Entry → Key → Entry → Type 0
HasEntry catalog key entry = (i : ℕ) × (slice_get catalog i ≡ Some entry) × (ids_of entry ≡ ids_in key)

-- by a job that has the identities
abbrev pub IsJobVerdict : Pipeline → Fact → Verdict → Type 0
IsJobVerdict job fact Foreign = ⊥
IsJobVerdict job fact Misshapen = ¬ (FitsJob fact job)
IsJobVerdict job fact True = IsTrueOf fact job
IsJobVerdict job fact False = FitsJob fact job × ¬ (IsTrueOf fact job)

abbrev pub IsVerdict : List Entry → Fact → Verdict → Type 0
-- no job has the identities
IsVerdict catalog fact Foreign = (i : ℕ) → ¬ (StandsAt catalog (ids_in fact.key) i)
-- the job has no such stage or tile, or the kind or the count differs
IsVerdict catalog fact Misshapen = HasJob catalog fact.key (λ job. ¬ (FitsJob fact job))
IsVerdict catalog fact True = IsTrueFact catalog fact
IsVerdict catalog fact False = HasJob catalog fact.key (FitsJob fact) × ¬ (IsTrueFact catalog fact)

-- a verdict for each fact, in their order
pub record AreVerdicts (catalog : List Entry) (facts : List Fact) (verdicts : List Verdict) : Type 0 where
  pub count : length verdicts ≡ length facts
  pub each : (k : ℕ) (fact : Fact) (verdict : Verdict) → slice_get facts k ≡ Some fact → slice_get verdicts k ≡ Some verdict
      → IsVerdict catalog fact verdict
