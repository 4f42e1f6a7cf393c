use Rattle.std.proofs.Common.{◌≡◌, ◌++◌, filter, drop}
use Rattle.job.specs.Kept.{pipeline_in}
use Rattle.grouping.specs.Greedy.{is_reader_of_stage}
use Rattle.grouping.proofs.readers.list_readers_of_stage.Given as goal

abbrev pub invariant-loop-reader : goal.invariant-loop-reader
invariant-loop-reader l =
    l.readers.items ++ filter (is_reader_of_stage (pipeline_in l.job) l.number) (drop l.reader-index l.stages) ≡ filter
    (is_reader_of_stage (pipeline_in l.job) l.number) l.stages
