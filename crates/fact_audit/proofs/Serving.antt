-- Stages that are computed before facts are judged by them.
use Rattle.std.proofs.Common.{ℕ, ◌≤◌, ◌≡◌, List, Some, Result, Ok, Err, IfOk, All, length, slice_get, subst, sym, ◌∙◌, ap, arith}
use Rattle.std.proofs.lemmas.List.Elements.{All-contains}
use Rattle.std.proofs.lemmas.Option.{slice_get_within, same_Some}
use Rattle.catalog.specs.Entries.{Entry, IsCatalog, StandsAt, entry_of, ids_in, ids_of}
use Rattle.identity.specs.declared.job_ids.JobId.{JobId}
use Rattle.job.specs.declared.job.Job.{Job}
use Rattle.job.specs.Kept.{pipeline_in}
use Rattle.whole_stages.specs.Known.{IsServed}
use Rattle.whole_stages.specs.declared.true_stages.ComputedWholeStages.{ComputedWholeStages}
use Rattle.tile_fact.specs.declared.fact.Fact.{Fact}
use Rattle.fact_audit.specs.declared.verdict.Verdict.{Verdict}
use Rattle.fact_audit.specs.Verdicts.{IsJobVerdict, IsVerdict}
use Rattle.fact_audit.specs.inside.Ready.{AreNamed, AreReady, AreStagesFor, HasStagesFor, IsReady, IsServedFor}
use Rattle.fact_audit.proofs.Judging.{by_job}
use Rattle.fact_audit.proofs.Pairing.{IsBegun, partner}

-- ---- what is computed of one job

pub stages_serve : {E : Type 0} (facts : List Fact) (job : Job) (named : List ℕ) (told : Result ComputedWholeStages E)
    → IfOk told (λ found. found.job.now ≡ job)
    → IfOk told (λ found. All (IsServed (pipeline_in job) found.known.buffers.items) named)
    → AreNamed (ids_of (entry_of job)) facts named → IfOk told (AreStagesFor facts (entry_of job))
stages_serve facts job named (Ok found) same served names = record {
  job = ap entry_of same;
  served = λ k fact at ids.
      subst (λ (j : Job). IsServed (pipeline_in j) found.known.buffers.items fact.key.stage) (sym same)
      (All-contains (IsServed (pipeline_in job) found.known.buffers.items) named fact.key.stage served (names k fact at ids));
}
stages_serve facts job named (Err e) same served names = tt

-- ---- what is computed of all

pub all_ready : (catalog : List Entry) (facts : List Fact) (known : List ComputedWholeStages) (n : ℕ) → length catalog ≤ n
    → IsBegun (AreStagesFor facts) catalog known n → AreReady catalog facts known
all_ready catalog facts known n all begun k fact at i stands =
    let within = slice_get_within catalog i stands.0 stands.1 in
    let found = partner (AreStagesFor facts) catalog known n i stands.0 begun (omega (arith, all, within)) stands.1 in
    record {
      stages = found.0;
      there = found.1;
      job = stands.1 ∙ ap Some (sym found.2.job);
      served = found.2.served k fact at stands.2;
    }

-- ---- a fact

pub stages_for : (catalog : List Entry) (known : List ComputedWholeStages) (fact : Fact) (i : ℕ) (ids : JobId) → IsReady catalog known fact
    → ids ≡ ids_in fact.key
    → StandsAt catalog ids i → HasStagesFor catalog known fact i
stages_for catalog known fact i ids ready same stands = ready i (subst (λ (them : JobId). StandsAt catalog them i) same stands)

pub serves : (catalog : List Entry) (known : List ComputedWholeStages) (fact : Fact) (i : ℕ) (stages : ComputedWholeStages)
    → HasStagesFor catalog known fact i → slice_get known i ≡ Some stages
    → (slice_get catalog i ≡ Some (entry_of stages.job.now)) × IsServedFor stages fact
serves catalog known fact i stages has there =
    subst (λ (s : ComputedWholeStages). (slice_get catalog i ≡ Some (entry_of s.job.now)) × IsServedFor s fact)
    (same_Some has.stages stages (sym has.there ∙ there)) (has.job, has.served)

pub by_stages : (catalog : List Entry) (known : List ComputedWholeStages) (fact : Fact) (i : ℕ) (ids : JobId) (stages : ComputedWholeStages) (v : Verdict)
    → IsCatalog catalog → IsReady catalog known fact → ids ≡ ids_in fact.key → StandsAt catalog ids i → slice_get known i ≡ Some stages
    → IsJobVerdict (pipeline_in stages.job.now) fact v → IsVerdict catalog fact v
by_stages catalog known fact i ids stages v is ready same stands there says =
    let at = (serves catalog known fact i stages (stages_for catalog known fact i ids ready same stands) there).0 in
    by_job catalog fact v is (record {
      index = i;
      entry = entry_of stages.job.now;
      there = at;
      ids = ap ids_of (sym (same_Some stands.0 (entry_of stages.job.now) (sym stands.1 ∙ at))) ∙ stands.2 ∙ same;
      holds = says;
    })
