use Rattle.row_streams.proofs.row_steps.RowStreamSteps.new.Goals as goal

pub invariant_of-result-clause-own : goal.invariant_of-result-clause-own
invariant_of-result-clause-own c = c.in_ok-rings.ensures.job

pub invariant_of-result-clause-formed_rings : goal.invariant_of-result-clause-formed_rings
invariant_of-result-clause-formed_rings c = c.in_ok-rings.ensures.outputs
