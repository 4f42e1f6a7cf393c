use Rattle.std.proofs.Common.{◌<◌, subst}
use Rattle.std.specs.Prelude.{All}
use Rattle.std.proofs.lemmas.List.Elements.{All-map}
use Rattle.job.specs.ReadViews.{read_view}
use Rattle.job.specs.Reads.{stage_read}
use Rattle.part_stages.proofs.part_ranks.has_part_reads_below.Goals as goal

pub returns : goal.returns
returns c = λ yes.
    subst (All (λ x. stage_read x < c.args.count)) c.reads.ensures
    (All-map (λ x. stage_read x < c.args.count) read_view c.reads.result.now (c.are_part_reads_below.ensures yes))
