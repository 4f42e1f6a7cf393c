-- What a table of names stores: only inner contracts cite this.
use Rattle.std.specs.Prelude.{ℕ, List}
use Rattle.pipe_checks.specs.declared.symbol.Symbol.{Symbol}

-- a declaration by its name
abbrev pub named : Symbol → List ℕ × Symbol
named s = (s.name, s)
