use Rattle.std.proofs.Common.{◌/◌, sym, ◌∙◌, arith}
use Rattle.tile_fact.proofs.PairLaws.{in_front, is_here, behind_it, none_at_all}
use Rattle.tile_fact.proofs.retired.EncodedRetiredJobs.has_job.Goals as goal

pub loop-count-preserved-in-Less : goal.loop-count-preserved-in-Less
loop-count-preserved-in-Less c =
    let half = c.loop-count.count / 2 in
    let left =
    in_front c.loop-count.count half c.loop-count.rest.now c.args.job.now _ _ _ (omega arith) c.loop-count.invariant.0 c.skip_encoded_retired_jobs.ensures
    c.decode_first_retired_job-pair.ensures.pair c.decode_first_retired_job-pair.ensures.behind (sym c.cmp.ensures ∙ c.in-Less.is) in
    (left.0, left.1 ∙ c.loop-count.invariant.1)

pub returns-in-Equal : goal.returns-in-Equal
returns-in-Equal c =
    let half = c.loop-count.count / 2 in
    sym (is_here c.loop-count.count half c.loop-count.rest.now c.args.job.now _ _ _ (omega arith) c.loop-count.invariant.0 c.skip_encoded_retired_jobs.ensures
    c.decode_first_retired_job-pair.ensures.pair c.decode_first_retired_job-pair.ensures.behind (sym c.cmp.ensures ∙ c.in-Equal.is))
    ∙ c.loop-count.invariant.1

pub loop-count-preserved : goal.loop-count-preserved
loop-count-preserved c =
    let half = c.loop-count.count / 2 in
    let left =
    behind_it c.loop-count.count half c.loop-count.rest.now c.args.job.now _ _ _ (omega arith) c.loop-count.invariant.0 c.skip_encoded_retired_jobs.ensures
    c.decode_first_retired_job-pair.ensures.pair c.decode_first_retired_job-pair.ensures.behind (sym c.cmp.ensures ∙ c.in-Greater.is) in
    (left.0, left.1 ∙ c.loop-count.invariant.1)

pub returns : goal.returns
returns c = sym (none_at_all c.args.job.now _ _ (omega arith)) ∙ c.loop-count.invariant.1
