use Rattle.std.proofs.Common.{◌∙◌, rules}
use Rattle.std.proofs.Common.{tests}
use Rattle.std.proofs.lemmas.Iterator.{YieldsList-from_slice}
use Rattle.std.proofs.lemmas.Iterator.Consumers.{YieldsList-from_filter, count_from_yields_List}
use Rattle.command_inputs.proofs.TableCounts.{is_table_item, tables_counted}
use Rattle.command_inputs.proofs.table_lines.count_declared_tables_of_input_program.Goals as goal

pub returns : goal.returns
returns c =
    count_from_yields_List c.filter.result _ c.count.ensures.ran
    (YieldsList-from_filter _ is_table_item (YieldsList-from_slice c.args.items.now (cc)) c.filter.ensures.closure (λ x b q k. search (rules, tests)))
    ∙ tables_counted c.args.items.now
