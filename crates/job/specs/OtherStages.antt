-- The same job with other stages.
use Rattle.std.specs.Prelude.{List}
use Rattle.job.specs.Pipeline.{Stage, Pipeline}

abbrev pub with_stages : List Stage → Pipeline → Pipeline
with_stages stages job =
    record {
      stages = stages;
      output = job.output;
      params = job.params;
      tables = job.tables;
      picture = job.picture;
      sides = job.sides;
    }
