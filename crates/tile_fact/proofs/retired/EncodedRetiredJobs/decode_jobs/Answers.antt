use Rattle.std.proofs.Common.{length, ap, arith}
use Rattle.std.proofs.lemmas.List.{length-drop}
use Rattle.tile_fact.proofs.PairLaws.{pairs_pushed, pairs_pushed_all}
use Rattle.tile_fact.proofs.retired.EncodedRetiredJobs.decode_jobs.Goals as goal

pub loop-preserved : goal.loop-preserved
loop-preserved c = (
  omega (arith, c.loop.invariant.0, ap length c.decode_first_retired_job-pair.ensures.behind, length-drop 64 c.loop.rest.now),
  pairs_pushed c.args.self.now.count c.loop.counter c.loop.rest.now _ c.loop.jobs.items _ _ c.decode_first_retired_job-pair.result.0 c.loop-test.true
      c.decode_first_retired_job-pair.ensures.pair c.decode_first_retired_job-pair.ensures.behind c.loop.invariant.1 c.in_ok-push.ensures.items,
)

pub returns : goal.returns
returns c = pairs_pushed_all c.args.self.now.count c.loop.counter c.loop.rest.now _ _ c.loop-test.false c.loop.invariant.1
