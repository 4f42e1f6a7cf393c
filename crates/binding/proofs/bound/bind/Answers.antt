use Rattle.std.proofs.Common.{◌≡◌, subst, sym, ap, ◌∙◌, List, ◌⊎◌}
use Rattle.std.specs.Prelude.{map}
use Rattle.pipe_tree.specs.Content.{content}
use Rattle.pipe_checks.specs.declared.symbol.Symbol.{Symbol}
use Rattle.pipe_checks.specs.Checking.{tree_in}
use Rattle.binding.specs.declared.fault.BindFault.TheVariants.{Memory}
use Rattle.binding.specs.Binding.{IsJobOf}
use Rattle.binding.specs.BindFaults.{IsUnnamed, IsBound, IsSizeFault, program_of}
use Rattle.binding.specs.inside.Parts.{AreBoundParts, IsPartsFault}
use Rattle.binding.proofs.Assembling.{bound_is, bound_is_job, bound_is_said, early_fault, late_fault}
use Rattle.binding.proofs.bound.bind.Goals as goal

pub new-requires : goal.new-requires
new-requires c =
    let known = c.build_job_parts.ensures.checked in
    let items = content (tree_in c.args.checked) in
    let parts = subst (λ ts. AreBoundParts items (program_of c.args.checked c.args.params.now ts) c.args.picture c.in-Ok.parts)
    c.deref.ensures.value c.in-Ok.ensures.ok in
    bound_is_job items (program_of c.args.checked c.args.params.now c.args.tables.items) c.args.picture c.args.sides c.in-Ok.parts
    known.named known.stages known.ranks parts (tree_in c.args.checked).limits c.height.ensures.within c.in-None.ensures.none.0
    c.in-None.ensures.none.1

pub returns-in-Ok-print-clause-ok : goal.returns-in-Ok-print-clause-ok
returns-in-Ok-print-clause-ok c =
    let items = content (tree_in c.args.checked) in
    let p = program_of c.args.checked c.args.params.now c.args.tables.items in
    let parts = subst (λ ts. AreBoundParts items (program_of c.args.checked c.args.params.now ts) c.args.picture c.in-Ok.parts)
    c.deref.ensures.value c.in-Ok.ensures.ok in
    subst (IsBound items p c.args.picture c.args.sides) (sym c.new.ensures.pipeline)
    (bound_is items p c.args.picture c.args.sides c.in-Ok.parts parts c.in-None.ensures.none.0 c.in-None.ensures.none.1)

pub returns-in-Ok-print-clause-job : goal.returns-in-Ok-print-clause-job
returns-in-Ok-print-clause-job c = c.new.result.well

pub returns-in-Ok-print-clause-says : goal.returns-in-Ok-print-clause-says
returns-in-Ok-print-clause-says c = λ names.
    let known = c.build_job_parts.ensures.checked in
    let items = content (tree_in c.args.checked) in
    let parts = subst (λ ts. AreBoundParts items (program_of c.args.checked c.args.params.now ts) c.args.picture c.in-Ok.parts)
    c.deref.ensures.value c.in-Ok.ensures.ok in
    subst (IsJobOf items c.args.params.now c.args.tables.items c.args.picture c.args.sides) (sym c.new.ensures.pipeline)
    (bound_is_said items (program_of c.args.checked c.args.params.now c.args.tables.items) c.args.picture c.args.sides c.in-Ok.parts
    known.named known.stages known.ranks parts (names ∙ ap (λ (ds : List Symbol). map (λ d. d.name) ds) known.params))

pub returns-in-Some-clause-fault : goal.returns-in-Some-clause-fault
returns-in-Some-clause-fault c =
    let items = content (tree_in c.args.checked) in
    let parts = subst (λ ts. AreBoundParts items (program_of c.args.checked c.args.params.now ts) c.args.picture c.in-Ok.parts)
    c.deref.ensures.value c.in-Ok.ensures.ok in
    late_fault items (program_of c.args.checked c.args.params.now c.args.tables.items) c.args.picture c.args.sides c.in-Ok.parts
    c.in-Some.fault parts (λ told same. subst (λ job. IsSizeFault job c.in-Some.fault) same c.in-Some.ensures.some)

pub returns-in-Err-clause-fault : goal.returns-in-Err-clause-fault
returns-in-Err-clause-fault c =
    let items = content (tree_in c.args.checked) in
    let fault = c.in-Err.fault in
    early_fault items (program_of c.args.checked c.args.params.now c.args.tables.items) c.args.picture c.args.sides fault
    (subst (λ ts. (fault ≡ Memory)
    ⊎ (IsUnnamed items fault ⊎ IsPartsFault items (program_of c.args.checked c.args.params.now ts) c.args.picture fault))
    c.deref.ensures.value c.in-Err.ensures.fault)
