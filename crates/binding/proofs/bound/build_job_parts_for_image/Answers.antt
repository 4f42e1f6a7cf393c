use Rattle.std.proofs.Common.{rules, ◌≡◌, ◌⊎◌, subst}
use Rattle.pipe_tree.specs.Content.{content}
use Rattle.pipe_checks.specs.Checking.{tree_in}
use Rattle.pipe_bounds.specs.InBounds.{IsInBounds}
use Rattle.binding.specs.Binding.{settings_for, item_tables, TablesFit, AreSmall}
use Rattle.std.specs.List.{flat_map}
use Rattle.binding.specs.Fits.{ExtentsFit}
use Rattle.binding.specs.declared.fault.BindFault.TheVariants.{Memory}
use Rattle.binding.specs.inside.Parts.{ArePartsOf, IsPartsFault}
use Rattle.binding.proofs.Assembling.{parts_fault}
use Rattle.binding.specs.BindFaults.{program_of}
use Rattle.binding.proofs.bound.build_job_parts_for_image.Goals as goal

pub returns-in-Ok-clause-ok : goal.returns-in-Ok-clause-ok
returns-in-Ok-clause-ok c =
    let items = content (tree_in c.args.checked.now) in
    let image = c.args.image.now in
    let settings = settings_for image c.args.picture.now c.args.params.now in
    let same : c.in_ok-settled.settled ≡ settings = c.in_ok-settled.ensures.settings in
    record {
      image = image;
      declared = c.requires;
      are = subst (λ ss. ArePartsOf (program_of c.args.checked.now ss c.args.tables.now) items c.in-Ok.parts) same c.in-Ok.ensures;
      bounds = subst (λ ss. IsInBounds ss items) same c.in_ok-found.ensures.bounds;
      tables =
          subst (λ ss. TablesFit ss (flat_map item_tables items) c.args.tables.now) same c.in_ok-found.ensures.tables;
      numbers = c.in_ok-found.ensures.numbers;
      real = c.in_ok-found.ensures.image;
      small = subst (λ ss. AreSmall ss) same c.in_ok-settled.ensures.small;
      planes = c.in_ok-found.ensures.picture.0;
      extents = subst (λ ss. ExtentsFit ss image c.args.picture.now) same c.in_ok-found.ensures.picture.1;
    }

pub returns-in_err-found-clause-fault : goal.returns-in_err-found-clause-fault
returns-in_err-found-clause-fault c =
    let items = content (tree_in c.args.checked.now) in
    let p = program_of c.args.checked.now c.args.params.now c.args.tables.now in
    let fault = c.in_err-found.field-0.0 in
    let known : (fault ≡ Memory) ⊎ IsPartsFault items p c.args.picture.now fault =
    parts_fault items p c.args.image.now c.args.picture.now c.in_ok-settled.settled fault c.requires c.in_ok-settled.ensures.settings
    c.in_err-found.ensures.fault in
    search rules
