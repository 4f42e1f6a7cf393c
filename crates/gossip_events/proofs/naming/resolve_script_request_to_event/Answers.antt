use Rattle.std.proofs.Common.{subst}
use Rattle.gossip_events.specs.Scripts.{IsAsked}
use Rattle.gossip_events.specs.declared.order.ScriptRequest.{ScriptRequest}
use Rattle.gossip_events.proofs.naming.resolve_script_request_to_event.Goals as goal

pub returns-in-Make-clause-none : goal.returns-in-Make-clause-none
returns-in-Make-clause-none c event asked =
    let made = subst (λ (o : ScriptRequest). IsAsked c.args.jobs.now o event) c.in-Make.is asked in
    c.in-None.ensures.none made.0 made.1

pub returns-in-Retire-clause-none : goal.returns-in-Retire-clause-none
returns-in-Retire-clause-none c event asked =
    let retired = subst (λ (o : ScriptRequest). IsAsked c.args.jobs.now o event) c.in-Retire.is asked in
    c.in-None-find_job_id_of_script_job_number.ensures.none retired.0 retired.1
