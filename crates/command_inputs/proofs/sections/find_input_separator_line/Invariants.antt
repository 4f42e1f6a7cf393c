use Rattle.std.proofs.Common.{ℕ, ◌<◌, IsTrue}
use Rattle.command_inputs.specs.Sections.{separates}
use Rattle.command_inputs.proofs.sections.find_input_separator_line.Given as goal

abbrev pub invariant-loop-at : goal.invariant-loop-at
invariant-loop-at l = (k : ℕ) → k < l.at → ¬ IsTrue (separates l.input k)
