use Rattle.job.specs.Kept.{pipeline_in}
use Rattle.part_stages.proofs.PartJobs.{has_more}
use Rattle.part_stages.proofs.part_finder.find_part_stages.Goals as goal

pub returns-then-is_found : goal.returns-then-is_found
returns-then-is_found c =
    has_more (pipeline_in c.args.job.now) c.find_repeated_parts.new.self.parts c.args.job.now.well
    (c.has_own_part_reads.ensures c.if-not-has_own_part_reads.false)
    (c.in_ok-find_repeated_parts.ensures (c.in_ok-find_column_stages.ensures c.in_ok-list_whole_parts.ensures))
