use Rattle.std.proofs.Common.{◌≡◌, ◌++◌, map, drop}
use Rattle.std.specs.List.{flat_map}
use Rattle.job.specs.Views.{formula_view}
use Rattle.job.specs.Reads.{reads_in}
use Rattle.job.specs.ReadViews.{read_view}
use Rattle.job.proofs.reads.push_job_case_reads.Given as goal

abbrev pub invariant-loop-case : goal.invariant-loop-case
invariant-loop-case l =
    map read_view l.found.items ++ flat_map reads_in (map (λ p. formula_view p.formula) (drop l.case-index l.cases))
    ≡ map read_view l.fn.found.items ++ flat_map reads_in (map (λ p. formula_view p.formula) l.cases)
