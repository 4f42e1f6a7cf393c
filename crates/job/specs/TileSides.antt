-- The same job under other sides of tiles.
use Rattle.domains.specs.Sides.{Sides}
use Rattle.job.specs.Pipeline.{Pipeline}

abbrev pub with_sides : Sides → Pipeline → Pipeline
with_sides sides job =
    record {
      stages = job.stages;
      output = job.output;
      params = job.params;
      tables = job.tables;
      picture = job.picture;
      sides = sides;
    }
