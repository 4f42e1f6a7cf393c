use Rattle.std.proofs.Common.{drop}
use Rattle.catalog.specs.Entries.{entry_of}
use Rattle.farm_answers.specs.inside.Missing.{IsLeft}
use Rattle.farm_answers.proofs.plan.FarmAnswerPlan.make_missing_facts.Given as goal

-- the tiles of the rest of the keys are left
abbrev pub invariant-loop-key : goal.invariant-loop-key
invariant-loop-key l = IsLeft l.self.catalog.now (entry_of l.self.job.now) l.self.schedule.now.inlining l.held (drop l.key-index l.keys)
