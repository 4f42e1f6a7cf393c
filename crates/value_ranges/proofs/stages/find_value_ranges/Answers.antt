use Rattle.std.proofs.Common.{arith, rules, ◌≡◌, ◌++◌, ◌∙◌, take, drop, length, sym, subst}
use Rattle.std.proofs.lemmas.Grind.{common_steps}
use Rattle.job.specs.Kept.{pipeline_in}
use Rattle.value_ranges.specs.inside.Found.{AreKnown}
use Rattle.value_ranges.proofs.Reaching.{full_known}
use Rattle.value_ranges.proofs.stages.find_value_ranges.Goals as goal

pub improve_value_ranges-requires : goal.improve_value_ranges-requires
improve_value_ranges-requires c =
    full_known (pipeline_in c.args.job.now) c.args.job.now.well (length c.stages.result.now) c.deref_mut.result.now
    (c.deref_mut.ensures.value ∙ c.in_ok-ranges.ensures)

pub returns-clause-ranges : goal.returns-clause-ranges
returns-clause-ranges c =
    let found = c.improve_value_ranges.new.ranges in
    let written : take c.in_ok-ranges.ranges.len (found ++ drop (length found) c.in_ok-ranges.ranges.items) ≡ found =
    search (rules, arith, common_steps) in
    (subst (AreKnown (pipeline_in c.args.job.now)) (sym written) c.improve_value_ranges.ensures.ranges).each
