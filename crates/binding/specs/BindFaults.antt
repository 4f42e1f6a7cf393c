-- When a program and a picture make a job, and the first fault if they make none.
use Rattle.std.specs.Prelude.{ℕ, ◌<◌, ◌≡◌, ◌≢◌, ◌⊎◌, Some, List, [], ◌∷◌, length, slice_get, codes}
use Rattle.std.specs.List.{flat_map}
use Rattle.domains.specs.Sides.{Sides}
use Rattle.netpbm.specs.Image.{Image as Picture}
use Rattle.pipe_tree.specs.declared.tree.Image.{Image}
use Rattle.pipe_tree.specs.declared.tree.Table.{Table as TableText}
use Rattle.pipe_tree.specs.Tree.{Declaration}
use Rattle.pipe_checks.specs.declared.checked.Checked.{Checked}
use Rattle.pipe_checks.specs.Checking.{stages_in, ranks_in}
use Rattle.pipe_bounds.specs.declared.fault.BoundFault.{BoundFault}
use Rattle.pipe_bounds.specs.declared.fault.BoundFault.TheVariants as bounds
use Rattle.pipe_bounds.specs.declared.params.Setting.{Setting}
use Rattle.pipe_bounds.specs.InBounds.{IsInBounds, IsBoundFault}
use Rattle.binding.specs.declared.fault.BindFault.{BindFault}
use Rattle.binding.specs.declared.fault.BindFault.TheVariants.{Bounds, Planes, ExtentMismatch, OutputShapes, TooManyTiles, Memory}
use Rattle.binding.specs.declared.fault.BindFault.TheVariants.{TableMismatch}
use Rattle.job.specs.Pipeline.{Stage, Pipeline}
use Rattle.binding.specs.Fits.{PlanesFit, ExtentsFit, ShapesFit, tile_count, HaveFewTiles, TilesFit}
use Rattle.binding.specs.Binding.{Program, settings_for, item_images, item_tables, IsTableFit, TablesFit, job_of}
use Rattle.tables.specs.declared.table.Table.{Table}

-- the fault of the picture
abbrev pub IsPictureFault : List Setting → Image → Picture → BindFault → Type 0
IsPictureFault settings i picture Planes = ¬ (PlanesFit i picture)
IsPictureFault settings i picture ExtentMismatch = PlanesFit i picture × ¬ (ExtentsFit settings i picture)
IsPictureFault settings i picture (Bounds fault) = ⊥
IsPictureFault settings i picture OutputShapes = ⊥
IsPictureFault settings i picture (TooManyTiles n) = ⊥
IsPictureFault settings i picture Memory = ⊥
IsPictureFault settings i picture (TableMismatch n) = ⊥

-- table n is declared and supplied, and fits
pub record FitsAt (settings : List Setting) (declared : List TableText) (given : List Table) (n : ℕ) : Type 0 where
  pub text : TableText
  pub there : slice_get declared n ≡ Some text
  pub table : Table
  pub handed : slice_get given n ≡ Some table
  pub fits : IsTableFit settings text table

-- table n is the first that is declared and not supplied, supplied and not declared, or unfit
pub record IsFirstMisfit (settings : List Setting) (declared : List TableText) (given : List Table) (n : ℕ) : Type 0 where
  pub some : (n < length declared) ⊎ (n < length given)
  pub misfit : ¬ (FitsAt settings declared given n)
  pub before : (k : ℕ) → k < n → FitsAt settings declared given k

-- stage n is the first with more than 65,536 tiles
pub record IsFirstCrowded (job : Pipeline) (n : ℕ) : Type 0 where
  pub stage : Stage
  pub there : slice_get job.stages n ≡ Some stage
  pub crowded : 65536 < tile_count job stage
  pub first : HaveFewTiles job n

-- ---- binding

-- a checked program at these values of its parameters, with these tables
abbrev pub program_of : Checked → List Setting → List Table → Program
program_of c settings tables = record { stages = stages_in c; ranks = ranks_in c; settings = settings; tables = tables }

-- the program with the parameters that are taken from the picture
abbrev pub settled_program : Program → Image → Picture → Program
settled_program p i picture =
    record { stages = p.stages; ranks = p.ranks; settings = settings_for i picture p.settings; tables = p.tables }

-- the job is what the items specify, and there is no fault
pub record IsBound (items : List Declaration) (p : Program) (picture : Picture) (sides : Sides) (job : Pipeline) : Type 0 where
  pub image : Image
  pub declared : flat_map item_images items ≡ image ∷ []
  pub is : job ≡ job_of (settled_program p image picture) items picture sides
  pub bounds : IsInBounds (settings_for image picture p.settings) items
  pub tables : TablesFit (settings_for image picture p.settings) (flat_map item_tables items) p.tables
  pub planes : PlanesFit image picture
  pub extents : ExtentsFit (settings_for image picture p.settings) image picture
  pub shapes : ShapesFit job
  pub tiles : TilesFit job

-- the fault of the sizes of a job's stages
abbrev pub IsSizeFault : Pipeline → BindFault → Type 0
IsSizeFault job OutputShapes = ¬ (ShapesFit job)
IsSizeFault job (TooManyTiles n) = ShapesFit job × IsFirstCrowded job n
IsSizeFault job (Bounds fault) = ⊥
IsSizeFault job Planes = ⊥
IsSizeFault job ExtentMismatch = ⊥
IsSizeFault job Memory = ⊥
IsSizeFault job (TableMismatch n) = ⊥

-- the program is out of bounds; or it is not and a table does not fit; or all tables fit and the picture does not
abbrev pub IsEarlyFault : List Setting → List Declaration → List Table → Image → Picture → BindFault → Type 0
IsEarlyFault settings items tables i picture fault =
    ((f : BoundFault) × (fault ≡ Bounds f) × (f ≢ bounds.Memory) × IsBoundFault settings items f)
    ⊎ (((n : ℕ) × (fault ≡ TableMismatch n) × IsInBounds settings items × IsFirstMisfit settings (flat_map item_tables items) tables n)
    ⊎ (IsInBounds settings items × TablesFit settings (flat_map item_tables items) tables × IsPictureFault settings i picture fault))

-- or none of these, and the sizes of stages do not fit
abbrev pub IsLateFault : Program → List Declaration → Image → Picture → Sides → BindFault → Type 0
IsLateFault p items i picture sides fault =
    IsInBounds p.settings items × TablesFit p.settings (flat_map item_tables items) p.tables × PlanesFit i picture
    × ExtentsFit p.settings i picture × IsSizeFault (job_of p items picture sides) fault

-- the fault is the first
pub record IsMisfit (items : List Declaration) (p : Program) (picture : Picture) (sides : Sides) (fault : BindFault) : Type 0 where
  pub image : Image
  pub declared : flat_map item_images items ≡ image ∷ []
  pub first : IsEarlyFault (settings_for image picture p.settings) items p.tables image picture fault
      ⊎ IsLateFault (settled_program p image picture) items image picture sides fault

-- there is not exactly one image item, so no picture has the planes that are named. No text has such a program
abbrev pub IsUnnamed : List Declaration → BindFault → Type 0
IsUnnamed items fault = (fault ≡ Planes) × ((i : Image) → flat_map item_images items ≢ i ∷ [])

abbrev pub IsBindFault : List Declaration → Program → Picture → Sides → BindFault → Type 0
IsBindFault items p picture sides fault = (fault ≡ Memory) ⊎ (IsUnnamed items fault ⊎ IsMisfit items p picture sides fault)

-- ---- numbers and printed names of the faults

abbrev pub bind_number : BindFault → ℕ
bind_number (Bounds fault) = 1
bind_number Planes = 2
bind_number ExtentMismatch = 3
bind_number OutputShapes = 4
bind_number (TooManyTiles stage) = 5
bind_number Memory = 6
bind_number (TableMismatch table) = 7

abbrev pub bind_name : BindFault → List ℕ
bind_name (Bounds fault) = codes "Bounds"
bind_name Planes = codes "Planes"
bind_name ExtentMismatch = codes "ExtentMismatch"
bind_name OutputShapes = codes "OutputShapes"
bind_name (TooManyTiles stage) = codes "TooManyTiles"
bind_name Memory = codes "Memory"
bind_name (TableMismatch table) = codes "TableMismatch"
