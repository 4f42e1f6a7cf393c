-- What holds of each job of the program.
use Rattle.std.specs.Prelude.{ℕ, ◌*◌, ◌%◌, ◌<◌, ◌≤◌, ◌≡◌, ◌⊎◌, ℤ, pos, ◌-ℤ◌, IsTrue, Some, List, length}
use Rattle.std.specs.Prelude.{slice_get, slice_index, FitsSigned, All}
use Rattle.std.specs.Int.{w32}
use Rattle.std.specs.Option.{ForSome}
use Rattle.domains.specs.Span.{len_of}
use Rattle.domains.specs.Area.{HoldsPoint}
use Rattle.domains.specs.Index.{IsIndex}
use Rattle.domains.specs.Sides.{IsSides}
use Rattle.domains.specs.Tiles.{tile_rows, tile_cols}
use Rattle.domains.specs.declared.area.Area.{Area}
use Rattle.netpbm.specs.Image.{Image, InRange, IsImage}
use Rattle.tables.specs.Entries.{AreEntries, IsEntries, span_from}
use Rattle.tables.specs.declared.table.Table.{Table}
use Rattle.job.specs.Formula.{Formula, number, coordinate, read, unary, binary, ternary, literal, lookup, select, stencil}
pub use Rattle.operators.specs.Limits.{IsDivisor, IsLiteral, IsTest, InDomainRange}
use Rattle.job.specs.Pipeline.{Body, plane, function, accumulator, Stage, Output, Pipeline}
use Rattle.job.specs.Values.{Valuation, factors, body_value}
use Rattle.job.specs.Reads.{BodyReads, formulas_of, rank_by}
use Rattle.job.specs.Boxes.{AreBoxed}
use Rattle.job.specs.Answers.{grid_of, height_of, width_of, has_tiles}

-- ---- numbers of the text

-- so that there is a middle
abbrev pub IsKernelSide : ℕ → Type 0
IsKernelSide n = (n % 2 ≡ 1) × (n ≤ 15)

-- rows of one length
pub record IsKernel (kernel : List (List ℤ)) : Type 0 where
  pub height : IsKernelSide (length kernel)
  pub width : IsKernelSide (length (factors kernel 0))
  pub one_width : All (λ row. length row ≡ length (factors kernel 0)) kernel

abbrev pub IsFormula : Formula → Type 0
IsFormula (number n) = FitsSigned w32 n
IsFormula (coordinate x) = Unit {0}
IsFormula (read g i j) = IsIndex i × IsIndex j
IsFormula (unary op a) = IsFormula a
IsFormula (binary op a b) = IsFormula a × IsFormula b
IsFormula (ternary op a b c) = IsFormula a × IsFormula b × IsFormula c
IsFormula (literal op a n) = IsLiteral op n × IsFormula a
IsFormula (lookup t a) = IsEntries t × IsFormula a
IsFormula (select a relation b first second) = IsFormula a × IsFormula b × IsFormula first × IsFormula second
IsFormula (stencil g divisor kernel) = IsDivisor divisor × IsKernel kernel

-- ---- stages

-- each point of its domain has a value
abbrev pub IsValued : Body → Type 0
IsValued (plane n) = Unit {0}
IsValued (function cases otherwise) = Unit {0}
IsValued (accumulator fold bins value bin) = ⊥

abbrev pub IsFunction : Body → Type 0
IsFunction (plane n) = ⊥
IsFunction (function cases otherwise) = Unit {0}
IsFunction (accumulator fold bins value bin) = ⊥

-- the stage of this number has a value at this point
pub record IsReadable (stages : List Stage) (g : ℕ) (r c : ℤ) : Type 0 where
  pub stage : Stage
  pub there : slice_get stages g ≡ Some stage
  pub valued : IsValued stage.body
  pub within : HoldsPoint stage.domain r c

-- rows and columns from 0 on
abbrev pub picture_area : Image → Area
picture_area p = record { rows = record { lo = pos 0; hi = pos p.rows -ℤ pos 1 }; cols = record { lo = pos 0; hi = pos p.cols -ℤ pos 1 } }

-- a plane is one of the picture and has its sides; there are at most 4,096 bins
abbrev pub IsBody : Image → Area → Body → Type 0
IsBody picture domain (plane n) = (n < length picture.planes) × (domain ≡ picture_area picture)
IsBody picture domain (function cases otherwise) = All (λ p. All IsTest p.tests) cases
IsBody picture domain (accumulator fold bins value bin) = InDomainRange bins × (len_of bins ≤ 4096)

pub record IsStage (job : Pipeline) (s : Stage) : Type 0 where
  pub rank : s.rank ≡ rank_by job.stages s.body
  pub rows : InDomainRange s.domain.rows
  pub cols : InDomainRange s.domain.cols
  pub body : IsBody job.picture s.domain s.body
  pub boxes : AreBoxed s.domain s.body
  pub formulas : All IsFormula (formulas_of s.body)
  pub reads : (r c : ℤ) → HoldsPoint s.domain r c → BodyReads (IsReadable job.stages) s.body r c
  pub tiles : IsTrue (has_tiles s.body) → tile_rows (grid_of job s) * tile_cols (grid_of job s) ≤ 65536

-- ---- the whole

-- stage g is a function with these sides
pub record IsOutputPlane (job : Pipeline) (height width g : ℕ) : Type 0 where
  pub stage : Stage
  pub there : slice_get job.stages g ≡ Some stage
  pub function : IsFunction stage.body
  pub rows : len_of stage.domain.rows ≡ height
  pub cols : len_of stage.domain.cols ≡ width

-- one function, or three with equal sides
pub record IsOutput (job : Pipeline) (o : Output) : Type 0 where
  pub planes : (length o.stages ≡ 1) ⊎ (length o.stages ≡ 3)
  pub height : InRange 4096 (height_of job (slice_index o.stages 0))
  pub width : InRange 4096 (width_of job (slice_index o.stages 0))
  pub equal_sides : All (IsOutputPlane job (height_of job (slice_index o.stages 0)) (width_of job (slice_index o.stages 0))) o.stages
  pub max : InRange 65535 o.max

-- a name of 1 to 32 bytes, and an entry of 32 bits for each index from the first on
pub record IsTable (t : Table) : Type 0 where
  pub named : 1 ≤ length t.name
  pub short : length t.name ≤ 32
  pub shape : AreEntries (span_from t.lo (length t.values)) (length t.values)
  pub fit : All (FitsSigned w32) t.values

pub record IsJob (job : Pipeline) : Type 0 where
  pub stages : (g : ℕ) (s : Stage) → slice_get job.stages g ≡ Some s → IsStage job s
  pub few_stages : length job.stages ≤ 65536
  pub output : ForSome job.output (IsOutput job)
  pub params : All (λ p. FitsSigned w32 p.value) job.params
  pub tables : All IsTable job.tables
  pub few_tables : length job.tables ≤ 16
  pub picture : IsImage job.picture
  pub sides : IsSides job.sides

-- ---- limits of a text

abbrev pub case_count : Body → ℕ
case_count (plane n) = 0
case_count (function cases otherwise) = length cases
case_count (accumulator fold bins value bin) = 0

-- what also holds of a job whose program was parsed
pub record IsSmall (job : Pipeline) : Type 0 where
  pub few_stages : length job.stages ≤ 64
  pub few_params : length job.params ≤ 64
  pub few_cases : (g : ℕ) (s : Stage) → slice_get job.stages g ≡ Some s → case_count s.body ≤ 16

-- ---- valuations

-- at each point of the domain of a stage, env has the value that the stage makes of env
abbrev pub Solves : Pipeline → Valuation → Type 0
Solves job env =
    (g : ℕ) (s : Stage) → slice_get job.stages g ≡ Some s → IsValued s.body
    → (r c : ℤ) → HoldsPoint s.domain r c → env g r c ≡ body_value job.picture env s.body r c
