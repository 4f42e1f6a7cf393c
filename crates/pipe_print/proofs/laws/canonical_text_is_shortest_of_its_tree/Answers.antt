use Rattle.pipe_print.proofs.Spelled.{canonical_is_text, canonical_least, text_no_longer, canonical_within}
use Rattle.pipe_print.proofs.laws.canonical_text_is_shortest_of_its_tree.Goals as goal

pub returns-clause-text : goal.returns-clause-text
returns-clause-text c = canonical_is_text

pub returns-clause-fewest_tokens : goal.returns-clause-fewest_tokens
returns-clause-fewest_tokens c = canonical_least

pub returns-clause-no_longer : goal.returns-clause-no_longer
returns-clause-no_longer c = text_no_longer

pub returns-clause-no_deeper : goal.returns-clause-no_deeper
returns-clause-no_deeper c = canonical_within
