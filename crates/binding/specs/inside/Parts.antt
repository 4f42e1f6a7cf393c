-- A job without its picture.
use Rattle.std.specs.Prelude.{◌≡◌, List, [], ◌∷◌, map, slice_get}
use Rattle.std.specs.List.{flat_map}
use Rattle.std.specs.Option.{option_map}
use Rattle.netpbm.specs.Image.{Image as Picture, IsImage}
use Rattle.pipe_tree.specs.declared.tree.Image.{Image}
use Rattle.pipe_tree.specs.Tree.{Declaration}
use Rattle.pipe_bounds.specs.InBounds.{IsInBounds}
use Rattle.binding.specs.declared.bound.JobParts.{JobParts}
use Rattle.binding.specs.declared.fault.BindFault.{BindFault}
use Rattle.binding.specs.Binding.{Program, AreSmall, AreSmallTables, settings_for, item_images, item_tables, TablesFit, item_stages, item_outputs, parameter_of}
use Rattle.binding.specs.Fits.{PlanesFit, ExtentsFit}
use Rattle.binding.specs.BindFaults.{IsEarlyFault, settled_program}
use Rattle.job.specs.Views.{stage_view, output_view, parameter_view}

-- the stages, the output and the parameters are those of the items
pub record ArePartsOf (p : Program) (items : List Declaration) (parts : JobParts) : Type 0 where
  pub stages : map stage_view parts.stages.items ≡ flat_map (item_stages p) items
  pub output : option_map output_view parts.output ≡ slice_get (flat_map (item_outputs p) items) 0
  pub params : map parameter_view parts.params.items ≡ map parameter_of p.settings

-- and bounds and picture have no fault
pub record AreBoundParts (items : List Declaration) (p : Program) (picture : Picture) (parts : JobParts) : Type 0 where
  pub image : Image
  pub declared : flat_map item_images items ≡ image ∷ []
  pub are : ArePartsOf (settled_program p image picture) items parts
  pub bounds : IsInBounds (settings_for image picture p.settings) items
  pub tables : TablesFit (settings_for image picture p.settings) (flat_map item_tables items) p.tables
  pub numbers : AreSmallTables p.tables
  pub planes : PlanesFit image picture
  pub real : IsImage picture
  pub small : AreSmall (settings_for image picture p.settings)
  pub extents : ExtentsFit (settings_for image picture p.settings) image picture

-- bounds or picture have a fault
pub record IsPartsFault (items : List Declaration) (p : Program) (picture : Picture) (fault : BindFault) : Type 0 where
  pub image : Image
  pub declared : flat_map item_images items ≡ image ∷ []
  pub early : IsEarlyFault (settings_for image picture p.settings) items p.tables image picture fault
