use Rattle.std.proofs.Common.{◌≡◌, map, take}
use Rattle.pipe_bounds.specs.Unset.{unset}
use Rattle.pipe_bounds.proofs.params.Params.from_symbols_without_values.Given as goal

abbrev pub invariant-loop-param : goal.invariant-loop-param
invariant-loop-param l = l.settings.items ≡ map unset (take l.param-index l.params)
