-- From the bytes of an input to its job.
use Rattle.std.specs.Prelude.{◌≡◌, ℕ, true, List, length}
use Rattle.std.specs.List.{list_any}
use Rattle.domains.specs.Sides.{Sides}
use Rattle.netpbm.specs.Grammar.{IsPicture}
use Rattle.netpbm.specs.Image.{Image}
use Rattle.pipe_tree.specs.Faults.{IsText}
use Rattle.pipe_print.specs.Canonical.{canonical}
use Rattle.pipe_tree.specs.Tree.{Declaration}
use Rattle.pipe_bounds.specs.declared.params.Setting.{Setting}
use Rattle.pipe_checks.specs.Checking.{IsNamed, is_result}
use Rattle.pipe_checks.specs.Graph.{IsRanking}
use Rattle.pipe_checks.specs.Names.{tables_of, stages_of}
use Rattle.pipe_checks.specs.Accesses.{graph_of}
use Rattle.binding.specs.BindFaults.{IsBound}
use Rattle.binding.specs.Binding.{Program, IsJobOf}
use Rattle.job.specs.Kept.{pipeline_in, program_text_in}
use Rattle.job.specs.Pipeline.{Pipeline}
use Rattle.job.specs.declared.job.Job.{Job}
use Rattle.tables.specs.declared.table.Table.{Table}
use Rattle.command_inputs.specs.Giving.{Given, AreGiven, unset_of}
use Rattle.command_inputs.specs.Sections.{IsParted, IsPartedInThree}
use Rattle.command_inputs.specs.Tables.{AreTableLines}

-- ---- what is read

-- a program's text; and a last section that is a line for each table that the program declares, and the spelling of a picture
pub record IsSpelled (text last : List ℕ) (tree : List Declaration) (tables : List Table) (source : Image) : Type 0 where
  pub program : IsText text tree
  pub each : length tables ≡ length (tables_of tree)
  pub spelling : List ℕ
  pub lines : AreTableLines last tables spelling
  pub picture : IsPicture spelling source

-- a program, a separator line, the lines of tables and a picture
pub record IsInput (input : List ℕ) (tree : List Declaration) (tables : List Table) (source : Image) : Type 0 where
  pub text : List ℕ
  pub last : List ℕ
  pub parted : IsParted input text last
  pub spelled : IsSpelled text last tree tables source

-- a program, a separator line, a middle section, a separator line, the lines of tables and a picture
pub record IsInputInThree (input : List ℕ) (tree : List Declaration) (middle : List ℕ) (tables : List Table) (source : Image) : Type 0
  where
    pub text : List ℕ
    pub last : List ℕ
    pub parted : IsPartedInThree input text middle last
    pub spelled : IsSpelled text last tree tables source

-- ---- the program

-- each name denotes what its place requires, there is a result, and no stage leads back to itself
pub record MeansSomething (tree : List Declaration) : Type 0 where
  pub named : IsNamed tree
  pub result : list_any is_result tree ≡ true
  pub ranks : List ℕ
  pub ranking : IsRanking (graph_of tree) ranks

-- ---- the job

-- a program with the ranks of its stages, the values of its parameters, and its tables
abbrev pub program_at : List Declaration → List ℕ → List Setting → List Table → Program
program_at tree ranks chosen tables = record { stages = stages_of tree; ranks = ranks; settings = chosen; tables = tables }

-- The program of this tree is well-formed. Each supplied value has a parameter of its own. The job is what the program specifies
-- at these values and with these tables; other values are taken from the picture's sides. All is in bounds, and the tables, the
-- picture, the sides of the output's functions and the numbers of tiles fit.
pub record IsJobAt (tree : List Declaration) (tables : List Table) (source : Image) (given : List Given) (sides : Sides)
    (job : Pipeline) : Type 0 where
  pub means : MeansSomething tree
  pub chosen : List Setting
  pub are_given : AreGiven (unset_of tree) given chosen
  pub ranks : List ℕ
  pub ranking : IsRanking (graph_of tree) ranks
  pub bound : IsBound tree (program_at tree ranks chosen tables) source sides job
  pub says : IsJobOf tree chosen tables source sides job

-- the input is a program of this tree, a separator line, the lines of tables and a picture, and the job is theirs
pub record IsInputJob (input : List ℕ) (given : List Given) (sides : Sides) (tree : List Declaration) (job : Pipeline) : Type 0 where
  pub tables : List Table
  pub source : Image
  pub read : IsInput input tree tables source
  pub made : IsJobAt tree tables source given sides job

-- the job of an input, which keeps the canonical text of its program
pub record IsReadJob (input : List ℕ) (given : List Given) (sides : Sides) (job : Job) : Type 0 where
  pub tree : List Declaration
  pub of_input : IsInputJob input given sides tree (pipeline_in job)
  pub text : program_text_in job ≡ canonical tree

-- ---- the job, and the section between the program and the picture

-- the input is a program of this tree, a middle section, the lines of tables and a picture. The job is that of the program, the
-- tables and the picture
pub record IsInputAround (input : List ℕ) (given : List Given) (sides : Sides) (tree : List Declaration) (job : Pipeline)
    (middle : List ℕ) : Type 0 where
  pub tables : List Table
  pub source : Image
  pub read : IsInputInThree input tree middle tables source
  pub made : IsJobAt tree tables source given sides job

-- the job and the middle section of an input; the job keeps the canonical text of its program
pub record IsReadAround (input : List ℕ) (given : List Given) (sides : Sides) (job : Job) (middle : List ℕ) : Type 0 where
  pub tree : List Declaration
  pub of_input : IsInputAround input given sides tree (pipeline_in job) middle
  pub text : program_text_in job ≡ canonical tree
