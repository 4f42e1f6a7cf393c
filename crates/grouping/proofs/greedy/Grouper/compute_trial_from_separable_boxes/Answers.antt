use Rattle.std.proofs.Common.{◌*◌, length}
use Rattle.job.specs.Kept.{pipeline_in}
use Rattle.grouping.proofs.TrialsOfBoxes.{all_taken}
use Rattle.grouping.proofs.greedy.Grouper.compute_trial_from_separable_boxes.Goals as goal

pub returns : goal.returns
returns c =
    all_taken (pipeline_in c.args.job.now) c.args.self.now.inlining c.args.candidate.now.group c.args.candidate.now.number
    (length c.deref.result.now * length c.deref-2.result.now) c.in_ok-taken.taken c.args.spans c.requires.boxes
    (λ i. length (c.deref.ensures.value i) * length (c.deref-2.ensures.value i)) c.in_ok-taken.ensures
