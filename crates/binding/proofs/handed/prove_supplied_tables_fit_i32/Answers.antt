use Rattle.std.proofs.Common.{List, subst, arith}
use Rattle.std.proofs.lemmas.List.{take_all}
use Rattle.std.proofs.lemmas.List.Elements.{All-more}
use Rattle.std.specs.List.{All}
use Rattle.tables.specs.declared.table.Table.{Table}
use Rattle.binding.specs.Binding.{IsSmallTable}
use Rattle.binding.proofs.handed.prove_supplied_tables_fit_i32.Goals as goal

pub loop-table-preserved : goal.loop-table-preserved
loop-table-preserved c =
    let here = subst IsSmallTable c.table-item.is c.prove_supplied_table_fits_i32.ensures in
    All-more IsSmallTable c.args.tables.now c.loop-table.table-index c.table-item.result c.loop-table-test.true c.loop-table.invariant here

pub returns : goal.returns
returns c =
    subst (λ (l : List Table). All IsSmallTable l) (take_all c.loop-table.table-index c.args.tables.now (omega arith)) c.loop-table.invariant
