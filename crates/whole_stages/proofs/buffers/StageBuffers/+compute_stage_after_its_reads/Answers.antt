use Rattle.std.proofs.Common.{arith, ℕ, ◌≡◌, ◌<◌, ◌+◌, ◌*◌, Some, length, map, sym, subst, ap, ◌∙◌}
use Rattle.std.specs.Prelude.{slice_index_or}
use Rattle.std.specs.Option.{option_map}
use Rattle.job.specs.Kept.{pipeline_in}
use Rattle.job.specs.Pipeline.{rank_of}
use Rattle.job.specs.Reads.{stage_read}
use Rattle.job.specs.ReadViews.{read_view}
use Rattle.whole_stages.specs.Known.{AreTrue, AreKnownOf, IsServed}
use Rattle.whole_stages.specs.inside.Kept.{IsKept, KnowsMore}
use Rattle.whole_stages.proofs.Knowing.{some_serves, whole_within, put_true, put_more, put_serves, inputs_serve, served_known}
use Rattle.whole_stages.proofs.Learning.{read_falls, read_more, same_read, all_read}
use Rattle.whole_stages.proofs.buffers.StageBuffers.+compute_stage_after_its_reads.Goals as goal

pub compute_stage_after_its_reads-returns-then-is_some-clause-served : goal.compute_stage_after_its_reads-returns-then-is_some-clause-served
compute_stage_after_its_reads-returns-then-is_some-clause-served t c =
    some_serves (pipeline_in c.args.job.now) c.args.stage c.args.self.now.buffers.items c.borrow_buffer_of_stage.result c.requires.right
    (sym c.is_some.ensures ∙ c.if-is_some.true) c.borrow_buffer_of_stage.ensures.some

pub compute_stage_after_its_reads-insert_buffer-requires : goal.compute_stage_after_its_reads-insert_buffer-requires
compute_stage_after_its_reads-insert_buffer-requires t c =
    let within =
    whole_within (pipeline_in c.args.job.now) c.args.stage c.in-Some.whole (c.in_ok-whole.ensures.right c.in-Some.whole c.in-Some.is) in
    omega (arith, within, c.in_ok-compute_stages_that_stage_reads.ensures.places)

pub compute_stage_after_its_reads-returns-in-Some-clause-right : goal.compute_stage_after_its_reads-returns-in-Some-clause-right
compute_stage_after_its_reads-returns-in-Some-clause-right t c =
    let is = c.in_ok-whole.ensures.right c.in-Some.whole c.in-Some.is in
    let within = whole_within (pipeline_in c.args.job.now) c.args.stage c.in-Some.whole is in
    subst (AreTrue (pipeline_in c.args.job.now)) (sym c.insert_buffer.ensures)
    (put_true (pipeline_in c.args.job.now) c.args.stage c.compute_stages_that_stage_reads.new.self.buffers.items c.in-Some.whole is
    (omega (arith, within, c.in_ok-compute_stages_that_stage_reads.ensures.places)) c.in_ok-compute_stages_that_stage_reads.ensures.right)

pub compute_stage_after_its_reads-returns-in-Some-clause-more : goal.compute_stage_after_its_reads-returns-in-Some-clause-more
compute_stage_after_its_reads-returns-in-Some-clause-more t c = λ g known.
    let is = c.in_ok-whole.ensures.right c.in-Some.whole c.in-Some.is in
    let within = whole_within (pipeline_in c.args.job.now) c.args.stage c.in-Some.whole is in
    subst (KnowsMore c.compute_stages_that_stage_reads.new.self.buffers.items) (sym c.insert_buffer.ensures)
    (put_more (pipeline_in c.args.job.now) c.args.stage c.compute_stages_that_stage_reads.new.self.buffers.items c.in-Some.whole is
    (omega (arith, within, c.in_ok-compute_stages_that_stage_reads.ensures.places))) g (c.in_ok-compute_stages_that_stage_reads.ensures.more g known)

pub compute_stage_after_its_reads-returns-in-Some-clause-served : goal.compute_stage_after_its_reads-returns-in-Some-clause-served
compute_stage_after_its_reads-returns-in-Some-clause-served t c =
    let job = pipeline_in c.args.job.now in
    let is = c.in_ok-whole.ensures.right c.in-Some.whole c.in-Some.is in
    let within = whole_within job c.args.stage c.in-Some.whole is in
    subst (λ buffers. IsServed job buffers c.args.stage) (sym c.insert_buffer.ensures)
    (put_serves job c.args.stage c.compute_stages_that_stage_reads.new.self.buffers.items c.in-Some.whole is
    (omega (arith, within, c.in_ok-compute_stages_that_stage_reads.ensures.places)))

pub compute_stage_after_its_reads-returns-in_default-clause-served : goal.compute_stage_after_its_reads-returns-in_default-clause-served
compute_stage_after_its_reads-returns-in_default-clause-served t c =
    inputs_serve (pipeline_in c.args.job.now) c.args.stage c.compute_stages_that_stage_reads.new.self.buffers.items c.in_ok-compute_stages_that_stage_reads.ensures.inputs
    (subst (IsKept (pipeline_in c.args.job.now) c.args.stage) c.in_default.is c.in_ok-whole.ensures)

pub compute_stages_that_stage_reads-compute_stage_after_its_reads-requires : goal.compute_stages_that_stage_reads-compute_stage_after_its_reads-requires
compute_stages_that_stage_reads-compute_stage_after_its_reads-requires t c =
    let job = pipeline_in c.args.job.now in
    let ranks : ℕ → ℕ = rank_of job.stages in
    let one : ranks (stage_read (read_view (slice_index_or c.in-Some.reads.now c.loop-read.read-index c.read-item.result))) <
    ranks c.args.stage =
    read_falls job c.args.job.now.well c.args.stage c.loop-read.read-index c.in-Some.reads.now c.read-item.result
    (option_map (λ reads. map read_view reads.now) c.reads.result) c.reads.ensures
    (ap (option_map (λ reads. map read_view reads.now)) c.in-Some.is)
    c.loop-read-test.true in
    let falls : ranks c.stage.result < ranks c.args.stage =
    subst (λ h. ranks h < ranks c.args.stage) (sym (c.stage.ensures ∙ ap (λ x. stage_read (read_view x)) c.read-item.is)) one in
    let here : ranks c.args.stage * 2 ≡ t = c.decreases in
    let below : ranks c.stage.result * 2 + 1 < t = omega (arith, falls, here) in
    (below, (c.loop-read.invariant.0, c.loop-read.invariant.1))

pub compute_stages_that_stage_reads-loop-read-preserved : goal.compute_stages_that_stage_reads-loop-read-preserved
compute_stages_that_stage_reads-loop-read-preserved t c = (
  c.in_ok-compute_stage_after_its_reads.ensures.places,
  c.in_ok-compute_stage_after_its_reads.ensures.right,
  (λ g known. c.in_ok-compute_stage_after_its_reads.ensures.more g (c.loop-read.invariant.2 g known)),
  read_more (pipeline_in c.args.job.now) c.loop-read.self.buffers.items c.compute_stage_after_its_reads.new.self.buffers.items c.in-Some.reads.now
      c.loop-read.read-index c.in_ok-compute_stage_after_its_reads.ensures.more
      (λ d.
      subst (λ h. AreKnownOf (pipeline_in c.args.job.now) c.compute_stage_after_its_reads.new.self.buffers.items h)
      (c.stage.ensures
      ∙ ap (λ x. stage_read (read_view x))
      (c.read-item.is ∙ same_read c.in-Some.reads.now c.loop-read.read-index c.read-item.result d c.loop-read-test.true))
      (served_known (pipeline_in c.args.job.now) c.stage.result c.compute_stage_after_its_reads.new.self.buffers.items c.in_ok-compute_stage_after_its_reads.ensures.served))
      c.loop-read.invariant.3,
)

pub compute_stages_that_stage_reads-returns-clause-inputs : goal.compute_stages_that_stage_reads-returns-clause-inputs
compute_stages_that_stage_reads-returns-clause-inputs t c =
    let job = pipeline_in c.args.job.now in
    all_read job c.args.stage c.loop-read.self.buffers.items c.in-Some.reads.now
    (option_map (λ reads. map read_view reads.now) c.reads.result) c.reads.ensures
    (ap (option_map (λ reads. map read_view reads.now)) c.in-Some.is)
    (λ k d h. c.loop-read.invariant.3 k d (omega (arith, h, c.loop-read-test.false)))
