use Rattle.std.proofs.Common.{◌≡◌, ap, false, inl, inr, refl, true}
use Rattle.farm.proofs.WorkerCalls.{goes_on, leased_with_memory}
use Rattle.farm.specs.WorkerLogs.{gives_lease}
use Rattle.farm_turns.specs.Calls.{Claimed}
use Rattle.leases.specs.declared.answer.Claim.TheVariants.{Memory}
use Rattle.farm.proofs.site.WorkerSiteWorkerPlace.claim_key.Goals as goal

pub returns-in-Granted : goal.returns-in-Granted
returns-in-Granted g c =
    let answer = c.claim-claim.result in
    let leased : gives_lease answer ≡ true = elim c.in-Granted.is [ inl new ↦ ap gives_lease new.1 | inr renewed ↦ ap gives_lease renewed.1 ] in
    goes_on (Claimed c.args.time c.args.worker c.args.key.now c.args.ttl true) (λ works. (
      answer,
      leased,
      c.claim-claim.ensures.answer (leased_with_memory answer leased),
      refl,
    ))

pub returns-in-Held : goal.returns-in-Held
returns-in-Held g c =
    let is = c.in-Held.is in
    goes_on (Claimed c.args.time c.args.worker c.args.key.now c.args.ttl false) (λ works. (
      c.claim-claim.result,
      ap gives_lease is,
      c.claim-claim.ensures.answer (λ (none : c.claim-claim.result ≡ Memory). absurd cc),
      refl,
    ))
