use Rattle.std.proofs.Common.{refl, sym, ◌∙◌}
use Rattle.tile_fact.specs.FactFile.{fact_file}
use Rattle.tile_fact.proofs.WholeLaws.{one_file}
use Rattle.tile_fact.proofs.laws.contents_have_one_fact_file.Goals as goal

pub returns-clause-spelled : goal.returns-clause-spelled
returns-clause-spelled c = λ jobs facts are. record { contents = are; spelled = refl }

pub returns-clause-alone : goal.returns-clause-alone
returns-clause-alone c = λ a b jobs facts is also. is.spelled ∙ sym also.spelled

pub returns-clause-apart : goal.returns-clause-apart
returns-clause-apart c = λ jobs others facts other_facts are also same.
    one_file (fact_file jobs facts) jobs others facts other_facts (record { contents = are; spelled = refl })
    (record { contents = also; spelled = same })
