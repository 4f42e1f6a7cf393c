-- What is to be written of a world.
use Rattle.std.specs.Prelude.{ℕ, List, ◌++◌}
use Rattle.std.specs.List.{flat_map}
use Rattle.world_commands.specs.WorldLines.{contents_line, count_line}
use Rattle.world_commands.specs.declared.contents.WorldNodeReport.{WorldNodeReport}
use Rattle.world_commands.specs.declared.outcome.WorldOutcome.{WorldOutcome}

-- the line of what a node holds
abbrev pub held_line : WorldNodeReport → List ℕ
held_line held = contents_line held.node held.retired.items held.facts.items

abbrev pub outcome_lines : WorldOutcome → List ℕ
outcome_lines outcome = count_line outcome.done outcome.refused ++ flat_map held_line outcome.nodes.items
