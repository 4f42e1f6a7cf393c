use Rattle.std.proofs.Common.{◌≤◌, length, arith, refl}
use Rattle.std.proofs.Math.Nat.{mul-le-mul_right}
use Rattle.std.proofs.lemmas.Option.{slice_get_read}
use Rattle.job.specs.Kept.{pipeline_in}
use Rattle.grouping.proofs.TrialsAreSmall.{areas_at_few}
use Rattle.grouping.proofs.TrialsOfBoxes.{counted, row_of_boxes}
use Rattle.grouping.proofs.greedy.Grouper.tally_separable_boxes.Goals as goal

pub overflow_mul-row : goal.overflow_mul-row
overflow_mul-row c =
    let job = pipeline_in c.args.job.now in
    let k = c.args.candidate.now in
    let below = c.loop-row-test.true in
    let within : c.loop-row.row ≤ length c.args.rows.now = omega arith in
    omega (
      arith,
      mul-le-mul_right (length c.args.cols.now) within,
      counted job c.args.self.now.inlining k.group k.number c.args.rows.now c.args.cols.now c.requires.boxes,
      areas_at_few job k.group c.args.job.now.well,
    )

pub tally_box_row-requires-clause-row : goal.tally_box_row-requires-clause-row
tally_box_row-requires-clause-row c =
    let rows = c.args.rows.now in
    row_of_boxes (pipeline_in c.args.job.now) c.args.self.now.inlining c.args.candidate.now.group c.args.candidate.now.number rows
    c.args.cols.now c.loop-row.row c.index-rows-row.result c.requires.boxes
    (slice_get_read rows (length rows) c.loop-row.row c.index-rows-row.result refl c.loop-row-test.true c.index-rows-row.is)
