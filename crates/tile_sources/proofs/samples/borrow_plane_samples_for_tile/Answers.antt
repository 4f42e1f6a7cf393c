use Rattle.std.proofs.Common.{◌∙◌, []}
use Rattle.tile_sources.proofs.samples.borrow_plane_samples_for_tile.Goals as goal

pub returns-clause-count : goal.returns-clause-count
returns-clause-count c = c.samples.ensures.samples.0 ∙ (c.samples.ensures.image.planes c.args.plane [] c.requires).whole
