-- The initial state of a parameter.
use Rattle.std.specs.Prelude.{None}
use Rattle.pipe_bounds.specs.declared.params.Setting.{Setting}
use Rattle.pipe_checks.specs.declared.symbol.Symbol.{Symbol}

-- a parameter without a value
abbrev pub unset : Symbol → Setting
unset d = record { name = d.name; value = None }
