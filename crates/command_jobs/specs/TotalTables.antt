-- Lines of totals are lines of tables.
use Rattle.std.specs.Prelude.{ℕ, ℤ, List, [], ◌∷◌, ◌++◌, length, map, slice_get, All, FitsSigned}
use Rattle.std.specs.Int.{w64}
use Rattle.std.specs.List.{flat_map, range_with_len}
use Rattle.std.specs.Option.{option_map_or}
use Rattle.domains.specs.Sides.{Sides}
use Rattle.domains.specs.Span.{Ends}
use Rattle.pipe_tree.specs.Tree.{Declaration}
use Rattle.job.specs.Pipeline.{Body, plane, function, accumulator, Stage, Pipeline}
use Rattle.job.specs.Totals.{totals}
use Rattle.job.specs.WellFormed.{IsJob}
use Rattle.tables.specs.Entries.{AreEntries}
use Rattle.tables.specs.Lines.{IsTableName, cut_to_32}
use Rattle.tables.specs.declared.table.Table.{Table}
use Rattle.command_inputs.specs.Giving.{Given}
use Rattle.command_inputs.specs.Input.{IsInputJob}
use Rattle.command_inputs.specs.Tables.{AreTableLines}
use Rattle.command_jobs.specs.Results.{total_line, total_lines}

-- the table of totals: an entry for each bin, clamped to 32 bits
abbrev pub table_of_totals : List ℕ → Ends → List ℤ → Table
table_of_totals name ends bins = record { name = name; lo = ends.lo; values = map cut_to_32 bins }

-- totals of 64 bits, one for each of at most 4,096 indices, by a name that is no reserved word
pub record AreTableTotals (name : List ℕ) (ends : Ends) (bins : List ℤ) : Type 0 where
  pub named : IsTableName name
  pub shape : AreEntries ends (length bins)
  pub fit : All (FitsSigned w64) bins

-- the line of such totals, before whatever text, is the line of their table
abbrev pub IsTotalLineOfTable : Type 0
IsTotalLineOfTable =
    (name : List ℕ) (ends : Ends) (bins : List ℤ) (rest : List ℕ) → AreTableTotals name ends bins
    → AreTableLines (total_line name ends bins ++ rest) (table_of_totals name ends bins ∷ []) rest

-- ---- all lines of a job

-- the table of a stage's totals, if it is an accumulator
abbrev pub body_tables : Pipeline → ℕ → Stage → Body → List Table
body_tables job g s (accumulator way bins value bin) = table_of_totals s.name bins (totals job g) ∷ []
body_tables job g s (plane n) = []
body_tables job g s (function pieces otherwise) = []

abbrev pub tables_at : Pipeline → ℕ → List Table
tables_at job g = option_map_or (λ s. body_tables job g s s.body) (slice_get job.stages g) []

-- the tables of the totals of all accumulators, in the order of the stages
abbrev pub total_tables : Pipeline → List Table
total_tables job = flat_map (tables_at job) (range_with_len 0 (length job.stages))

-- the lines of the totals of an input's job, before whatever text, are the lines of their tables
abbrev pub AreInputLinesOfTables : Type 0
AreInputLinesOfTables =
    (input : List ℕ) (given : List Given) (sides : Sides) (tree : List Declaration) (job : Pipeline) (rest : List ℕ)
    → IsInputJob input given sides tree job → IsJob job → AreTableLines (total_lines job ++ rest) (total_tables job) rest
