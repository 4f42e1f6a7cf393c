use Rattle.command_jobs.proofs.TotalTables.{input_lines_of_tables, total_line_of_table}
use Rattle.command_jobs.proofs.laws.total_lines_are_table_lines.Goals as goal

pub returns-clause-line : goal.returns-clause-line
returns-clause-line c = total_line_of_table

pub returns-clause-input : goal.returns-clause-input
returns-clause-input c = input_lines_of_tables
