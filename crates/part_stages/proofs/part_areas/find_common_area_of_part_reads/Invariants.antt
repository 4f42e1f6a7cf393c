use Rattle.std.proofs.Common.{◌∷◌, map, take}
use Rattle.job.specs.Kept.{pipeline_in}
use Rattle.job.specs.ReadViews.{read_view}
use Rattle.part_stages.specs.Parts.{IsPartArea}
use Rattle.part_stages.proofs.part_areas.find_common_area_of_part_reads.Given as goal

abbrev pub invariant-loop-read : goal.invariant-loop-read
invariant-loop-read l = IsPartArea (pipeline_in l.job) (read_view l.fn.first ∷ map read_view (take l.read-index l.rest)) l.area
