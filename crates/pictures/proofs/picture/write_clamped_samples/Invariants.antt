use Rattle.std.proofs.Common.{◌≡◌, map, take}
use Rattle.job.specs.Answers.{sample_of}
use Rattle.pictures.proofs.picture.write_clamped_samples.Given as goal

abbrev pub invariant-loop-k : goal.invariant-loop-k
invariant-loop-k l = take l.k l.cuts ≡ map (sample_of l.max) (take l.k l.values)
