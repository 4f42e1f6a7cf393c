use Rattle.catalog.specs.Entries.{entry_of}
use Rattle.held_facts.proofs.TrueStates.{true_answer}
use Rattle.farm_answers.proofs.LeftTiles.{no_disputed, no_misshapen, no_missing, no_retired}
use Rattle.farm_answers.proofs.plan.FarmAnswerPlan.compose_answer.Goals as goal

pub unreachable-requires : goal.unreachable-requires
unreachable-requires c =
    no_missing c.args.self.now.catalog.now c.args.held.now (entry_of c.args.self.now.job.now) c.requires _ _ c.in-Err-Missing.field-0-is
    c.in-Err-Missing.ensures.fault

pub unreachable-requires-in-Err-Disputed : goal.unreachable-requires-in-Err-Disputed
unreachable-requires-in-Err-Disputed c =
    no_disputed c.args.self.now.catalog.now c.args.held.now (entry_of c.args.self.now.job.now) c.requires _ _ c.in-Err-Disputed.field-0-is
    c.in-Err-Disputed.ensures.fault

pub unreachable-requires-in-Err-Misshapen : goal.unreachable-requires-in-Err-Misshapen
unreachable-requires-in-Err-Misshapen c =
    no_misshapen c.args.self.now.catalog.now c.args.held.now (entry_of c.args.self.now.job.now) c.requires _ _
    c.in-Err-Misshapen.field-0-is
    c.in-Err-Misshapen.ensures.fault

pub unreachable-requires-in-Err-Retired : goal.unreachable-requires-in-Err-Retired
unreachable-requires-in-Err-Retired c =
    no_retired c.args.self.now.catalog.now c.args.held.now (entry_of c.args.self.now.job.now) c.requires _ c.in-Err-Retired.field-0-is
    c.in-Err-Retired.ensures.fault

pub returns-in-Ok-clause-answer : goal.returns-in-Ok-clause-answer
returns-in-Ok-clause-answer c =
    true_answer c.args.self.now.catalog.now (entry_of c.args.self.now.job.now) c.args.held.now c.requires.apart c.requires.here
    c.requires.truth c.in-Ok.answer c.requires.good c.in-Ok.ensures.answer
