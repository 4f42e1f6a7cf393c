use Rattle.std.proofs.Common.{map, take}
use Rattle.command_line.specs.Asking.{AreParameters}
use Rattle.command_line.proofs.words.parse_all_parameter_arguments.Given as goal

abbrev pub invariant-loop-word : goal.invariant-loop-word
invariant-loop-word l = AreParameters (map (λ w. w.now) (take l.word-index l.words)) l.parameters.items
