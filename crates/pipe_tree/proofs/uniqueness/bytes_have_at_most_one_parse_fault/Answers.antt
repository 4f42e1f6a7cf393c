-- The tokens of bytes are determined, and tokens have one fault.
use Rattle.pipe_tree.proofs.Bytes.{one_fault, no_fault}
use Rattle.pipe_tree.proofs.uniqueness.bytes_have_at_most_one_parse_fault.Goals as goal

pub returns-clause-one : goal.returns-clause-one
returns-clause-one c = one_fault

pub returns-clause-none : goal.returns-clause-none
returns-clause-none c = no_fault
