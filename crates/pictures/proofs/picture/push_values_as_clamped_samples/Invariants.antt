use Rattle.std.proofs.Common.{◌≡◌, ◌++◌, length, map}
use Rattle.job.specs.Answers.{sample_of}
use Rattle.pictures.proofs.picture.push_values_as_clamped_samples.Given as goal

abbrev pub invariant-loop-rest : goal.invariant-loop-rest
invariant-loop-rest l = record {
  max : l.sheet.plane.max ≡ l.fn.sheet.plane.max;
  samples : l.sheet.plane.samples ++ map (sample_of l.max) l.rest ≡ l.fn.sheet.plane.samples ++ map (sample_of l.max) l.values;
}

abbrev pub decreases-loop-rest : goal.decreases-loop-rest
decreases-loop-rest l = length l.rest
