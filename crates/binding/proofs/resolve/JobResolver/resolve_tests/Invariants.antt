use Rattle.std.proofs.Common.{◌≡◌, map, take}
use Rattle.binding.specs.Binding.{test_of}
use Rattle.job.specs.Views.{test_view}
use Rattle.binding.specs.inside.Resolving.{program_in, variables_in}
use Rattle.binding.proofs.resolve.JobResolver.resolve_tests.Given as goal

abbrev pub invariant-loop-test : goal.invariant-loop-test
invariant-loop-test l = map test_view l.resolved.items ≡ map (test_of (program_in l.self) (variables_in l.own)) (take l.test-index l.tests)
