-- Reading answers one list of jobs and one of facts.
use Rattle.tile_fact.proofs.WholeLaws.{one_file}
use Rattle.tile_fact.proofs.laws.fact_file_bytes_have_one_content.Goals as goal

pub returns : goal.returns
returns c = λ bytes jobs others facts other_facts is also. one_file bytes jobs others facts other_facts is also
