use Rattle.std.proofs.Common.{◌++◌, [], ◌∷◌, ℕ, List, Ok, length, drop, sym, ap, ◌∙◌, arith}
use Rattle.std.proofs.lemmas.List.{length-drop}
use Rattle.identity.specs.declared.job_ids.JobId.{JobId}
use Rattle.identity.specs.Keys.{ids_cmp}
use Rattle.tile_fact.specs.Reading.{is_above, pair_read}
use Rattle.tile_fact.proofs.LoopLaws.{goes_on, fails, is_done}
use Rattle.tile_fact.proofs.PairLaws.{pair_cut, pair_low, pair_high, pairs_ok}
use Rattle.tile_fact.proofs.retired.check_and_skip_encoded_retired_jobs.Goals as goal

pub returns-then-rest-lt64-clause-read : goal.returns-then-rest-lt64-clause-read
returns-then-rest-lt64-clause-read c =
    fails (pair_read c.args.total) c.loop.invariant.1.0 c.args.count c.loop.counter _ _ _ c.loop.invariant.1.1 _ c.loop-test.true
    (pair_cut c.args.total _ _ c.if-rest-lt64.true)

pub returns-then-not-is_above_last_retired_job-clause-read : goal.returns-then-not-is_above_last_retired_job-clause-read
returns-then-not-is_above_last_retired_job-clause-read c =
    fails (pair_read c.args.total) c.loop.invariant.1.0 c.args.count c.loop.counter _ _ _ c.loop.invariant.1.1 _ c.loop-test.true
    (pair_low c.args.total _ _ (omega arith) (ap (is_above ids_cmp c.loop.last) (sym c.decode_first_retired_job-pair.ensures.pair) ∙ sym c.if-not-is_above_last_retired_job.ensures))

pub loop-preserved : goal.loop-preserved
loop-preserved c =
    let read =
    pair_high c.args.total c.loop.last c.loop.rest.now (omega arith)
    (ap (is_above ids_cmp c.loop.last) (sym c.decode_first_retired_job-pair.ensures.pair) ∙ sym c.if-not-is_above_last_retired_job.ensures) in (
      omega (arith, c.loop.invariant.0, ap length c.decode_first_retired_job-pair.ensures.behind, length-drop 64 c.loop.rest.now),
      (
        c.loop.invariant.1.0 ++ c.decode_first_retired_job-pair.result.0 ∷ [],
        goes_on (pair_read c.args.total) c.loop.invariant.1.0 c.args.count c.loop.counter _ _ _ c.loop.invariant.1.1
            c.decode_first_retired_job-pair.result.0 c.decode_first_retired_job-pair.result.1.now c.loop-test.true
            (read ∙ ap (λ (i : JobId). Ok (i, drop 64 c.loop.rest.now)) (sym c.decode_first_retired_job-pair.ensures.pair)
            ∙ ap (λ (l : List ℕ). Ok (c.decode_first_retired_job-pair.result.0, l)) (sym c.decode_first_retired_job-pair.ensures.behind)),
      ),
    )

pub returns-clause-read : goal.returns-clause-read
returns-clause-read c =
    let done =
    is_done (pair_read c.args.total) c.loop.invariant.1.0 c.args.count c.loop.counter _ c.loop.rest.now _ c.loop.invariant.1.1
    c.loop-test.false in
    done ∙ ap (λ (l : List JobId). Ok (l, c.loop.rest.now)) (pairs_ok c.args.count c.args.total _ c.args.bytes.now _ done).read

pub returns-clause-listing : goal.returns-clause-listing
returns-clause-listing c =
    let done =
    is_done (pair_read c.args.total) c.loop.invariant.1.0 c.args.count c.loop.counter _ c.loop.rest.now _ c.loop.invariant.1.1
    c.loop-test.false in
    let read = pairs_ok c.args.count c.args.total _ c.args.bytes.now _ done in
    record { whole = read.whole; rise = read.rise }
