use Rattle.job.specs.Kept.{pipeline_in}
use Rattle.row_rings.specs.Rings.{states_in}
use Rattle.row_streams.proofs.Steps.{from_output}
use Rattle.row_streams.proofs.row_steps.RowStreamSteps.pass_next_streamed_row.Goals as goal

pub invariant_of-self : goal.invariant_of-self
invariant_of-self c =
    let self = c.args.self.now in record {
      own = self.own;
      formed_rings = self.formed_rings;
      runnable =
          (from_output (pipeline_in self.job.now) self.outputs.now self.end self.row (states_in self.rings) self.steps.items self.at
          c.requires.left c.requires.next self.runnable).2;
    }
