use Rattle.std.proofs.Common.{List, map, is_some, sym, ap, ◌∙◌}
use Rattle.std.specs.Map.{values_of}
use Rattle.indexmap.specs.IndexMap.{values}
use Rattle.pipe_checks.specs.declared.symbol.Symbol.{Symbol}
use Rattle.pipe_checks.specs.Names.{number_of}
use Rattle.pipe_checks.specs.inside.Entries.{named}
use Rattle.pipe_checks.specs.inside.Tables.{put}
use Rattle.pipe_checks.proofs.Tables.{values_named, put_entries, known_in}
use Rattle.pipe_checks.proofs.table.SymbolTable.declare.Goals as goal

pub invariant_of-self-2 : goal.invariant_of-self-2
invariant_of-self-2 c =
    let after = put (values c.self.inside.symbols) c.args.symbol in
    let e = c.in_ok-before.ensures.entries ∙ put_entries c.self.inside.symbols.entries c.args.symbol c.self.invariant in
    e ∙ ap (map named) (sym (ap values_of e ∙ values_named after))

pub returns-clause-known : goal.returns-clause-known
returns-clause-known c =
    c.is_some.ensures ∙ ap is_some c.in_ok-before.ensures.old ∙ known_in c.self.inside.symbols.entries c.args.symbol.name c.self.invariant
    ∙ ap (λ (l : List Symbol). is_some (number_of l c.args.symbol.name)) c.self.view_is

pub returns-clause-table : goal.returns-clause-table
returns-clause-table c =
    let after = put (values c.self.inside.symbols) c.args.symbol in
    let e = c.in_ok-before.ensures.entries ∙ put_entries c.self.inside.symbols.entries c.args.symbol c.self.invariant in
    ap values_of e ∙ values_named after ∙ ap (λ (l : List Symbol). put l c.args.symbol) c.self.view_is
