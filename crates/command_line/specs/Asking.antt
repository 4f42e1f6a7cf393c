-- What the words of a command line request.
use Rattle.std.specs.Prelude.{◌≡◌, ◌≤◌, ℤ, Bool, false, Some, List, [], ◌∷◌, codes, map, option_map, unwrap_or, string_bytes}
use Rattle.std.specs.List.{list_any}
use Rattle.std.specs.Str.{bytes_eq}
use Rattle.std.specs.declared.alloc.Global.{Global}
use Rattle.std.specs.declared.string.String.{String}
use Rattle.clap.specs.Words.{Row, Text, all_of, fault_of, first_of, subcommand_of}
use Rattle.domains.specs.Sides.{IsSides}
use Rattle.command_line.specs.Nodes.{IsNodeCount}
use Rattle.command_line.specs.Tasks.{AsksFor}
use Rattle.command_line.specs.Usage.{usage}
use Rattle.command_line.specs.Values.{IsChosen, SpellsParameter, is_true}
use Rattle.command_line.specs.declared.options.Options.{Options}
use Rattle.command_line.specs.declared.tasks.CommandTask.{CommandTask}
use Rattle.command_line.specs.declared.tasks.CommandTask.TheVariants.{Run, World}
use Rattle.command_line.specs.declared.words.JobRequest.{JobRequest}
use Rattle.command_line.specs.declared.words.CommandRequest.{CommandRequest}
use Rattle.command_line.specs.declared.words.CommandRequest.TheVariants.{Merge, Job}
use Rattle.farm_setup.specs.Setups.{IsWithin}
use Rattle.farm_setup.specs.declared.setup.FarmSetup.{FarmSetup}
use Rattle.farm_setup.specs.declared.setup.Faults.{Faults}

-- a parameter's name and the value that it is given
abbrev pub Given : Type 0
Given = String Global × ℤ

-- ---- options

-- how a command is run, by its options; usual are tiles of 64 rows and columns, and 40 percent
pub record AreOptions (rows : List Row) (options : Options) : Type 0 where
  pub height : IsChosen (first_of (codes "rows") rows) 64 options.sides.height
  pub width : IsChosen (first_of (codes "cols") rows) 64 options.sides.width
  pub sides : IsSides options.sides
  pub percent : IsChosen (first_of (codes "percent") rows) 40 options.percent
  pub most : options.percent ≤ 10000
  pub stored : options.stored ≡ is_true (first_of (codes "stored") rows)

-- how often a farm makes each fault, by its options; usually never
pub record AreFaults (rows : List Row) (faults : Faults) : Type 0 where
  pub lose : IsChosen (first_of (codes "lose") rows) 0 faults.lose
  pub repeat : IsChosen (first_of (codes "repeat") rows) 0 faults.repeat
  pub restart : IsChosen (first_of (codes "restart") rows) 0 faults.restart

-- how a farm runs, by its options; usual are two nodes, 1000 turns, and a capacity of eight parcels
pub record AreFarmOptions (rows : List Row) (farm : FarmSetup) : Type 0 where
  pub nodes : IsChosen (first_of (codes "nodes") rows) 2 farm.nodes
  pub turns : IsChosen (first_of (codes "turns") rows) 1000 farm.turns
  pub capacity : IsChosen (first_of (codes "capacity") rows) 8 farm.capacity
  pub size : IsWithin farm.nodes farm.turns farm.capacity
  pub faults : AreFaults rows farm.faults

-- the settings of a task by its options: how a farm runs, and the number of nodes of a world, usually two; other tasks have none
abbrev pub HasOwn : List Row → CommandTask → Type 0
HasOwn rows (Run farm) = AreFarmOptions rows farm
HasOwn rows (World nodes) = IsChosen (first_of (codes "nodes") rows) 2 nodes × IsNodeCount nodes
HasOwn rows task = Unit {0}

-- ---- parameters

-- each word spells the name and the value of a parameter
abbrev pub AreParameters : List Text → List Given → Type 0
AreParameters [] [] = Unit {0}
AreParameters (word ∷ words) ((name, value) ∷ given) = SpellsParameter word (string_bytes name) value × AreParameters words given
AreParameters _ _ = ⊥

abbrev pub AreParametersIn : List Row → List Given → Type 0
AreParametersIn rows given = AreParameters (unwrap_or (all_of (codes "NAME=VALUE") rows) []) given

-- ---- the whole

abbrev pub is_separator : String Global → Bool
is_separator word = bytes_eq (string_bytes word) (codes "--")

-- The first word is a task's, and none is `--`. Only then are the others looked at.
pub record NamesTask (words : List (String Global)) : Type 0 where
  pub task : CommandTask
  pub named : AsksFor words task
  pub no_separator : list_any is_separator words ≡ false

-- The words are a command line of the usage text, and none is `--`. The first is the task's; the others give its options and its
-- parameters.
pub record IsJobRequestOf (words : List (String Global)) (request : JobRequest) : Type 0 where
  pub accepted : fault_of usage (map string_bytes words) ≡ []
  pub no_separator : list_any is_separator words ≡ false
  pub task : AsksFor words request.task
  pub rows : List Row
  pub given : option_map (λ p. p.1) (subcommand_of usage (map string_bytes words)) ≡ Some rows
  pub own : HasOwn rows request.task
  pub options : AreOptions rows request.options
  pub parameters : AreParametersIn rows request.parameters.items

-- there is one word, which is `merge`: it takes neither options nor parameters
abbrev pub AskForMerge : List (String Global) → Type 0
AskForMerge words = map string_bytes words ≡ codes "merge" ∷ []

abbrev pub IsRequestOf : List (String Global) → CommandRequest → Type 0
IsRequestOf words Merge = AskForMerge words
IsRequestOf words (Job request) = IsJobRequestOf words request
