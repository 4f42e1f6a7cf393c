use Rattle.std.proofs.Common.{List, Option, slice_get, ap, ◌∙◌, refl}
use Rattle.std.specs.Option.{option_map}
use Rattle.std.proofs.lemmas.Option.{slice_get-map}
use Rattle.domains.specs.declared.area.Area.{Area}
use Rattle.domains.proofs.Places.{here_is, all_at}
use Rattle.pipe_tree.specs.Tree.{branch, branches}
use Rattle.binding.specs.inside.Ranges.{IsRangedBranch, box_in}
use Rattle.binding.specs.inside.Resolving.{program_in, variables_in}
use Rattle.binding.proofs.resolve.JobResolver.resolve_cases.Goals as goal

pub resolve_case-requires-clause-ranged : goal.resolve_case-requires-clause-ranged
resolve_case-requires-clause-ranged c =
    let cases = c.args.cases.now in
    let n = c.loop-number.number in
    let x = c.index-cases-number.result in
    all_at (IsRangedBranch c.args.self.now.tables.now) (branches cases) n (branch x) c.requires.ranged
    (slice_get-map branch cases n ∙ ap (option_map branch) (here_is cases cases n x refl c.loop-number-test.true c.index-cases-number.is))

pub resolve_case-requires-clause-boxed : goal.resolve_case-requires-clause-boxed
resolve_case-requires-clause-boxed c =
    let cases = c.args.cases.now in
    let n = c.loop-number.number in
    let x = c.index-cases-number.result in
    let box = box_in (program_in c.args.self.now) (variables_in c.args.own.now) c.args.bounds.now.domain in
    ap (λ (os : List (Option Area)). slice_get os n) c.requires.boxed
    ∙ slice_get-map box (branches cases) n
    ∙ ap (option_map box) (slice_get-map branch cases n
    ∙ ap (option_map branch) (here_is cases cases n x refl c.loop-number-test.true c.index-cases-number.is))
