use Rattle.std.proofs.Common.{◌≡◌, map, take}
use Rattle.pipe_tree.specs.Tree.{branches}
use Rattle.binding.specs.Binding.{case_of}
use Rattle.job.specs.Views.{case_view}
use Rattle.binding.specs.inside.Resolving.{program_in, variables_in}
use Rattle.binding.proofs.resolve.JobResolver.resolve_cases.Given as goal

abbrev pub invariant-loop-number : goal.invariant-loop-number
invariant-loop-number l =
    map case_view l.job_cases.items
    ≡ map (case_of (program_in l.self) (variables_in l.own) l.bounds.domain) (branches (take l.number l.cases))
