use Rattle.command_inputs.specs.inside.Steps.{AreTablesBefore}
use Rattle.command_inputs.proofs.table_lines.parse_given_count_of_input_table_lines.Given as goal

abbrev pub invariant-loop-number : goal.invariant-loop-number
invariant-loop-number l = AreTablesBefore l.section l.number l.tables.items l.start
