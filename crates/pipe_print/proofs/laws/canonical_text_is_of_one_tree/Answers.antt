use Rattle.pipe_print.proofs.Spelled.{only_tree, canonical_apart}
use Rattle.pipe_print.proofs.laws.canonical_text_is_of_one_tree.Goals as goal

pub returns-clause-alone : goal.returns-clause-alone
returns-clause-alone c = only_tree

pub returns-clause-apart : goal.returns-clause-apart
returns-clause-apart c = canonical_apart
