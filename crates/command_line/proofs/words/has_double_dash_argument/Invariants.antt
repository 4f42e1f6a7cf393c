use Rattle.std.proofs.Common.{◌≡◌, drop}
use Rattle.std.specs.List.{list_any}
use Rattle.command_line.specs.Asking.{is_separator}
use Rattle.command_line.proofs.words.has_double_dash_argument.Given as goal

abbrev pub invariant-loop-word : goal.invariant-loop-word
invariant-loop-word l = list_any is_separator (drop l.word-index l.words) ≡ list_any is_separator l.words
