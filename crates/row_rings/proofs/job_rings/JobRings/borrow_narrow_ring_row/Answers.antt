use Rattle.job.specs.Kept.{pipeline_in}
use Rattle.row_rings.specs.Rings.{states_in}
use Rattle.row_rings.proofs.Given.{row_given}
use Rattle.row_rings.proofs.job_rings.JobRings.borrow_narrow_ring_row.Goals as goal

pub returns : goal.returns
returns c =
    row_given (pipeline_in c.args.self.now.job.now) (states_in c.args.self.now) c.args.self.now.narrow.rings.items c.args.row c.args.stage
    c.requires.kept c.requires.narrow c.index.result.now c.index.ensures c.args.self.now.right_narrow c.borrow_counted_row.result.now
    c.borrow_counted_row.ensures.numbers c.borrow_counted_row.ensures.count
