-- A search for the first wanted tile that is not ready: by stage, row and column.
use Rattle.std.specs.Prelude.{◌≡◌, ◌<◌, ℕ, true, Some, List, length}
use Rattle.domains.specs.Tiles.{tile_cols, tile_rows}
use Rattle.domains.specs.declared.grid.Grid.{Grid}
use Rattle.identity.specs.declared.key.Key.{Key}
use Rattle.job.specs.Answers.{is_result}
use Rattle.job.specs.Pipeline.{Pipeline}
use Rattle.job.specs.Readers.{grid_at}
use Rattle.overlap_tiles.specs.Needs.{key_of}
use Rattle.held_facts.specs.Answers.{IsNotHeld}
use Rattle.held_facts.specs.HeldAnswers.{IsReady, IsDisputed, IsMisshapen}
use Rattle.held_facts.specs.Facts.{FactSet}
use Rattle.held_facts.specs.declared.answer_fault.AnswerFault.{AnswerFault}
use Rattle.held_facts.specs.declared.answer_fault.AnswerFault.TheVariants as fault

-- the key of the tile in row i and column j of stage g
abbrev pub tile_key : List ℕ → Pipeline → ℕ → ℕ → ℕ → Key
tile_key program job g i j = key_of program job (record { stage = g; row = i; col = j })

-- the fault names the key, and is what is wrong with it
abbrev pub IsFaultAt : FactSet → Pipeline → Key → AnswerFault → Type 0
IsFaultAt s job key (fault.Missing other) = (other ≡ key) × IsNotHeld s key
IsFaultAt s job key (fault.Disputed other) = (other ≡ key) × IsDisputed s key
IsFaultAt s job key (fault.Misshapen other) = (other ≡ key) × IsMisshapen s job key
IsFaultAt s job key fault.Memory = ⊥
IsFaultAt s job key fault.Retired = ⊥

-- a number below n of which Bad holds, while Good holds of all below it
pub record IsFirstBelow (n : ℕ) (Good Bad : ℕ → Type 0) : Type 0 where
  pub at : ℕ
  pub within : at < n
  pub bad : Bad at
  pub before : (k : ℕ) → k < at → Good k

-- ---- a row of tiles

-- the first n tiles of row i
abbrev pub RowIsReady : FactSet → List ℕ → Pipeline → ℕ → ℕ → ℕ → Type 0
RowIsReady s program job g n i = (j : ℕ) → j < n → IsReady s job (tile_key program job g i j)

abbrev pub RowHasFault : FactSet → List ℕ → Pipeline → ℕ → ℕ → AnswerFault → ℕ → Type 0
RowHasFault s program job g n found i =
    IsFirstBelow n (λ j. IsReady s job (tile_key program job g i j)) (λ j. IsFaultAt s job (tile_key program job g i j) found)

-- ---- a stage

abbrev pub GridIsReady : FactSet → List ℕ → Pipeline → ℕ → Grid → Type 0
GridIsReady s program job g grid = (i : ℕ) → i < tile_rows grid → RowIsReady s program job g (tile_cols grid) i

abbrev pub GridHasFault : FactSet → List ℕ → Pipeline → ℕ → AnswerFault → Grid → Type 0
GridHasFault s program job g found grid =
    IsFirstBelow (tile_rows grid) (RowIsReady s program job g (tile_cols grid)) (RowHasFault s program job g (tile_cols grid) found)

-- if the stage has tiles
abbrev pub StageIsReady : FactSet → List ℕ → Pipeline → ℕ → Type 0
StageIsReady s program job g = (grid : Grid) → grid_at job g ≡ Some grid → GridIsReady s program job g grid

pub record StageHasFault (s : FactSet) (program : List ℕ) (job : Pipeline) (found : AnswerFault) (g : ℕ) : Type 0 where
  pub grid : Grid
  pub there : grid_at job g ≡ Some grid
  pub first : GridHasFault s program job g found grid

-- ---- the job

-- if the stage is wanted
abbrev pub WantedIsReady : FactSet → List ℕ → Pipeline → ℕ → Type 0
WantedIsReady s program job g = is_result job g ≡ true → StageIsReady s program job g

pub record WantedHasFault (s : FactSet) (program : List ℕ) (job : Pipeline) (found : AnswerFault) (g : ℕ) : Type 0 where
  pub wanted : is_result job g ≡ true
  pub stage : StageHasFault s program job found g

abbrev pub JobIsReady : FactSet → List ℕ → Pipeline → Type 0
JobIsReady s program job = (g : ℕ) → g < length job.stages → WantedIsReady s program job g

abbrev pub JobHasFault : FactSet → List ℕ → Pipeline → AnswerFault → Type 0
JobHasFault s program job found = IsFirstBelow (length job.stages) (WantedIsReady s program job) (WantedHasFault s program job found)
