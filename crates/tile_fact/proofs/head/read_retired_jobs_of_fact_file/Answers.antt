use Rattle.std.proofs.Common.{ap, ◌∙◌}
use Rattle.tile_fact.specs.Reading.{retired_read}
use Rattle.tile_fact.proofs.PairLaws.{no_pairs, no_listing}
use Rattle.tile_fact.proofs.head.read_retired_jobs_of_fact_file.Goals as goal

pub returns-in-OfFacts-clause-read : goal.returns-in-OfFacts-clause-read
returns-in-OfFacts-clause-read c =
    ap (λ v. retired_read c.args.total v c.args.bytes.now) c.in-OfFacts.is ∙ no_pairs c.args.total c.args.bytes.now

pub returns-in-OfFacts-clause-listing : goal.returns-in-OfFacts-clause-listing
returns-in-OfFacts-clause-listing c = no_listing c.args.bytes.now
