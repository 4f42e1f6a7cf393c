use Rattle.std.proofs.Common.{List, ap, ◌∙◌}
use Rattle.pipe_checks.specs.declared.symbol.Symbol.{Symbol}
use Rattle.pipe_checks.specs.Names.{number_of}
use Rattle.pipe_checks.proofs.Tables.{number_in}
use Rattle.pipe_checks.proofs.table.SymbolTable.find_symbol_number.Goals as goal

pub returns : goal.returns
returns c =
    c.get_index_of.ensures.index ∙ number_in c.self.inside.symbols.entries c.args.name.now c.self.invariant
    ∙ ap (λ (l : List Symbol). number_of l c.args.name.now) c.self.view_is
