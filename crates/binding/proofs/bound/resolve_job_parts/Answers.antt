use Rattle.std.proofs.Common.{◌≡◌, ◌∙◌, ap, sym, subst}
use Rattle.pipe_tree.specs.Tree.{declarations}
use Rattle.pipe_tree.specs.Content.{items_of, content}
use Rattle.pipe_checks.specs.Checking.{tree_in}
use Rattle.binding.specs.inside.Ranges.{AreReady}
use Rattle.binding.specs.BindFaults.{program_of}
use Rattle.binding.proofs.Readying.{ready}
use Rattle.binding.proofs.bound.resolve_job_parts.Goals as goal

pub resolve_stages-requires : goal.resolve_stages-requires
resolve_stages-requires c =
    let tree = tree_in c.args.checked.now in
    let p = program_of c.args.checked.now c.args.params.now c.args.tables.now in
    let known = c.tree.ensures.checked in
    let same : declarations c.items-items.result.now ≡ content tree =
    ap declarations (c.items-items.ensures ∙ ap items_of c.tree.ensures.program) in
    subst (AreReady p c.args.found.now) (sym same) (ready (content tree) p known.stages known.named c.args.found.now c.requires.found c.requires.bounds
    c.requires.tables)
