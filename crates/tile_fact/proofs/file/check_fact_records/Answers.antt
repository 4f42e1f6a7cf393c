use Rattle.std.proofs.Common.{◌++◌, [], ◌∷◌, sym, ap, ◌∙◌}
use Rattle.std.specs.List.{list_any}
use Rattle.std.specs.Ordering.{eq_by_cmp}
use Rattle.identity.specs.declared.job_ids.JobId.{JobId}
use Rattle.identity.specs.Keys.{ids_cmp}
use Rattle.tile_fact.specs.Numbers.{fact_of, first_pairs}
use Rattle.tile_fact.specs.Reading.{fact_read}
use Rattle.tile_fact.proofs.LoopLaws.{goes_on, fails, is_done, fact_err, fact_low, fact_gone, fact_next, body_fails, body_ends, ends_late}
use Rattle.tile_fact.proofs.LoopLaws.{checked, some_left, none_left}
use Rattle.tile_fact.proofs.file.check_fact_records.Goals as goal

pub returns-in-Err : goal.returns-in-Err
returns-in-Err c =
    let retired = first_pairs c.args.retired.now.count c.args.retired.now.bytes.now in
    body_fails c.args.total retired c.args.count c.args.bytes.now _
    (fails (fact_read c.args.total retired) c.loop.invariant.1.0 c.args.count c.loop.counter _ _ _ c.loop.invariant.1.1 _ c.loop-test.true
    (fact_err c.args.total retired _ _ _ c.in-Err.ensures.read))

pub returns-then-not-is_above_last_fact_record : goal.returns-then-not-is_above_last_fact_record
returns-then-not-is_above_last_fact_record c =
    let retired = first_pairs c.args.retired.now.count c.args.retired.now.bytes.now in
    body_fails c.args.total retired c.args.count c.args.bytes.now _
    (fails (fact_read c.args.total retired) c.loop.invariant.1.0 c.args.count c.loop.counter _ _ _ c.loop.invariant.1.1 _ c.loop-test.true
    (fact_low c.args.total retired _ _ _ c.in-Ok.ensures.read (sym c.if-not-is_above_last_fact_record.ensures)))

pub returns-then-has_job : goal.returns-then-has_job
returns-then-has_job c =
    let retired = first_pairs c.args.retired.now.count c.args.retired.now.bytes.now in
    body_fails c.args.total retired c.args.count c.args.bytes.now _
    (fails (fact_read c.args.total retired) c.loop.invariant.1.0 c.args.count c.loop.counter _ _ _ c.loop.invariant.1.1 _ c.loop-test.true
    (fact_gone c.args.total retired _ _ _ c.in-Ok.ensures.read (sym c.if-not-is_above_last_fact_record.ensures)
    (ap (λ (i : JobId). list_any (eq_by_cmp ids_cmp i) retired) (sym c.from_key.ensures) ∙ sym c.if-has_job.ensures)))

pub loop-preserved : goal.loop-preserved
loop-preserved c =
    let retired = first_pairs c.args.retired.now.count c.args.retired.now.bytes.now in
    let fact = fact_of c.in-Ok.read.0.label.key c.in-Ok.read.0.label.kind c.in-Ok.read.0.numbers.now in (
      c.in-Ok.ensures.behind,
      (
        c.loop.invariant.1.0 ++ fact ∷ [],
        goes_on (fact_read c.args.total retired) c.loop.invariant.1.0 c.args.count c.loop.counter _ _ _ c.loop.invariant.1.1 fact _
            c.loop-test.true
            (fact_next c.args.total retired _ _ (fact, _) c.in-Ok.ensures.read (sym c.if-not-is_above_last_fact_record.ensures)
            (ap (λ (i : JobId). list_any (eq_by_cmp ids_cmp i) retired) (sym c.from_key.ensures) ∙ sym c.if-has_job.ensures)),
      ),
    )

pub returns-then-not-is_empty : goal.returns-then-not-is_empty
returns-then-not-is_empty c =
    let retired = first_pairs c.args.retired.now.count c.args.retired.now.bytes.now in
    body_ends c.args.total retired c.args.count c.args.bytes.now _ _
    (is_done (fact_read c.args.total retired) c.loop.invariant.1.0 c.args.count c.loop.counter _ _ _ c.loop.invariant.1.1 c.loop-test.false)
    ∙ ends_late c.args.total _ _ (some_left _ c.if-not-is_empty.ensures)

pub returns : goal.returns
returns c =
    let retired = first_pairs c.args.retired.now.count c.args.retired.now.bytes.now in
    checked _ c.args.total retired c.args.count c.args.bytes.now _
    (is_done (fact_read c.args.total retired) c.loop.invariant.1.0 c.args.count c.loop.counter _ _ _ c.loop.invariant.1.1 c.loop-test.false)
    (none_left _ c.if-not-is_empty.ensures)
