-- How contracts see a program on its way to a job.
use Rattle.std.specs.Prelude.{map}
use Rattle.pipe_tree.specs.declared.tree.Output.{Output as OutputText}
use Rattle.job.specs.Pipeline.{Output}
use Rattle.binding.specs.declared.resolve.VariableNames.{VariableNames as KeptVariables}
use Rattle.binding.specs.declared.resolve.JobResolver.{JobResolver}
use Rattle.binding.specs.BindFaults.{program_of}
use Rattle.binding.specs.Binding.{Program, Variables, stage_number, names_in}

abbrev pub variables_in : KeptVariables → Variables
variables_in own = record { row_name = own.row; column_name = own.column }

abbrev pub program_in : JobResolver → Program
program_in r = program_of r.checked.now r.params.now r.tables.now

abbrev pub output_of : Program → OutputText → Output
output_of p o = record { stages = map (stage_number p) (names_in o.names); max = o.max }
