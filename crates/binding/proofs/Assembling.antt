-- The stages, the output and the parameters of a program, a picture and the sides of tiles make a job.
use Rattle.std.proofs.Common.{◌≡◌, ap, sym, subst, ◌∙◌, Option, List, [], ◌∷◌, ◌⊎◌, inl, inr}
use Rattle.std.specs.Prelude.{map}
use Rattle.std.specs.Option.{option_map}
use Rattle.domains.specs.Sides.{Sides, IsSides}
use Rattle.netpbm.specs.Image.{Image as Picture}
use Rattle.pipe_tree.specs.Sizes.{KeepsLimits}
use Rattle.pipe_tree.specs.Tree.{Declaration}
use Rattle.binding.specs.declared.bound.JobParts.{JobParts}
use Rattle.binding.specs.declared.fault.BindFault.{BindFault}
use Rattle.job.specs.Pipeline.{Stage, Output, Parameter, Pipeline}
use Rattle.pipe_checks.specs.declared.symbol.Symbol.{Symbol}
use Rattle.pipe_checks.specs.Names.{params_of, stages_of}
use Rattle.pipe_checks.specs.Graph.{IsRanking}
use Rattle.pipe_checks.specs.Accesses.{graph_of}
use Rattle.pipe_checks.specs.Checking.{IsNamed}
use Rattle.binding.specs.Binding.{Program, settings_for, item_images, job_of, IsJobOf}
use Rattle.tables.specs.declared.table.Table.{Table}
use Rattle.binding.specs.Fits.{ShapesFit, TilesFit}
use Rattle.job.specs.WellFormed.{IsJob}
use Rattle.binding.proofs.JobLaws.{job_is}
use Rattle.pipe_tree.specs.declared.tree.Image.{Image}
use Rattle.pipe_bounds.specs.declared.params.Setting.{Setting}
use Rattle.std.specs.List.{flat_map}
use Rattle.binding.specs.BindFaults.{IsUnnamed, IsEarlyFault, IsBound, IsSizeFault, IsBindFault, settled_program}
use Rattle.binding.specs.declared.fault.BindFault.TheVariants.{Memory}
use Rattle.binding.specs.inside.Parts.{ArePartsOf, AreBoundParts, IsPartsFault}
use Rattle.job.specs.Views.{stage_view, output_view, parameter_view}

abbrev pub job_from : JobParts → List Table → Picture → Sides → Pipeline
job_from parts tables picture sides =
    record {
      stages = map stage_view parts.stages.items;
      output = option_map output_view parts.output;
      params = map parameter_view parts.params.items;
      tables = tables;
      picture = picture;
      sides = sides;
    }

pub job_from_is : (p : Program) (items : List Declaration) (picture : Picture) (sides : Sides) (parts : JobParts) → ArePartsOf p items parts
    → job_from parts p.tables picture sides ≡ job_of p items picture sides
job_from_is p items picture sides parts h =
    let told = job_of p items picture sides in
    ap (λ (ss : List Stage).
    let j : Pipeline =
    record {
      stages =
          ss;
      output =
          option_map output_view parts.output;
      params = map parameter_view parts.params.items;
      tables = p.tables;
      picture = picture;
      sides = sides;
    } in
    j) h.stages
    ∙ ap (λ (o : Option Output).
    let j : Pipeline =
    record {
      stages = told.stages;
      output = o;
      params = map parameter_view parts.params.items;
      tables = p.tables;
      picture = picture;
      sides = sides;
    } in
    j) h.output
    ∙ ap (λ (ps : List Parameter).
    let j : Pipeline =
    record { stages = told.stages; output = told.output; params = ps; tables = p.tables; picture = picture; sides = sides } in
    j)
    h.params

module _ (items : List Declaration) (p : Program) (picture : Picture) (sides : Sides) (parts : JobParts) (named : IsNamed items)
    (own : p.stages ≡ stages_of items) (ranking : IsRanking (graph_of items) p.ranks) (h : AreBoundParts items p picture parts) where
  pub bound_is_job : KeepsLimits items → IsSides sides → ShapesFit (job_from parts p.tables picture sides) → TilesFit (job_from parts p.tables picture sides)
      → IsJob (job_from parts p.tables picture sides)
  bound_is_job limits tile_sides shapes tiles =
      let same = job_from_is (settled_program p h.image picture) items picture sides parts h.are in
      subst IsJob (sym same)
      (job_is items named (settled_program p h.image picture) own h.small h.bounds h.tables h.numbers picture h.image h.declared h.planes h.extents sides
      ranking (subst TilesFit same tiles) limits (subst ShapesFit same shapes) h.real tile_sides)

  pub bound_is_said : map (λ s. s.name) p.settings ≡ map (λ d. d.name) (params_of items)
      → IsJobOf items p.settings p.tables picture sides (job_from parts p.tables picture sides)
  bound_is_said names = record {
    named = named;
    params = names;
    image = h.image;
    declared = h.declared;
    set = h.bounds.set;
    fit = h.tables;
    ranks = p.ranks;
    ranking = ranking;
    is =
        job_from_is (settled_program p h.image picture) items picture sides parts h.are
        ∙ ap (λ (ss : List Symbol).
        let q : Program = record { stages = ss; ranks = p.ranks; settings = settings_for h.image picture p.settings; tables = p.tables } in
        job_of q items picture sides) own;
  }

-- where the sizes fit
pub bound_is : (items : List Declaration) (p : Program) (picture : Picture) (sides : Sides) (parts : JobParts)
    → AreBoundParts items p picture parts → ShapesFit (job_from parts p.tables picture sides)
    → TilesFit (job_from parts p.tables picture sides) → IsBound items p picture sides (job_from parts p.tables picture sides)
bound_is items p picture sides parts h shapes tiles = record {
  image = h.image;
  declared = h.declared;
  is = job_from_is (settled_program p h.image picture) items picture sides parts h.are;
  bounds = h.bounds;
  tables = h.tables;
  planes = h.planes;
  extents = h.extents;
  shapes = shapes;
  tiles = tiles;
}

-- a fault of bounds, tables and picture is told of the parameters that are taken from the picture
pub parts_fault : (items : List Declaration) (p : Program) (i : Image) (picture : Picture) (ss : List Setting) (fault : BindFault)
    → flat_map item_images items ≡ i ∷ [] → ss ≡ settings_for i picture p.settings
    → (fault ≡ Memory) ⊎ IsEarlyFault ss items p.tables i picture fault → (fault ≡ Memory) ⊎ IsPartsFault items p picture fault
parts_fault items p i picture ss fault declared same (inl memory) = inl memory
parts_fault items p i picture ss fault declared same (inr early) = inr (record {
  image = i;
  declared = declared;
  early = subst (λ (ss : List Setting). IsEarlyFault ss items p.tables i picture fault) same early;
})

-- a fault of what stands before the sizes is one of binding
pub early_fault : (items : List Declaration) (p : Program) (picture : Picture) (sides : Sides) (fault : BindFault)
    → (fault ≡ Memory) ⊎ (IsUnnamed items fault ⊎ IsPartsFault items p picture fault) → IsBindFault items p picture sides fault
early_fault items p picture sides fault (inl memory) = inl memory
early_fault items p picture sides fault (inr (inl unnamed)) = inr (inl unnamed)
early_fault items p picture sides fault (inr (inr h)) =
    inr (inr (record { image = h.image; declared = h.declared; first = inl h.early }))

-- a fault of the sizes comes when nothing else is amiss
pub late_fault : (items : List Declaration) (p : Program) (picture : Picture) (sides : Sides) (parts : JobParts) (fault : BindFault)
    → AreBoundParts items p picture parts → ((told : Pipeline) → job_from parts p.tables picture sides ≡ told → IsSizeFault told fault)
    → IsBindFault items p picture sides fault
late_fault items p picture sides parts fault h sizes =
    inr (inr (record {
      image = h.image;
      declared = h.declared;
      first = inr (h.bounds, h.tables, h.planes, h.extents, sizes _ (job_from_is _ items picture sides parts h.are));
    }))
