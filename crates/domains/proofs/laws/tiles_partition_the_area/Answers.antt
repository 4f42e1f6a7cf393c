use Rattle.domains.proofs.Covers.{tile_is, tile_inside, tiles_apart, tile_fits}
use Rattle.domains.proofs.laws.tiles_partition_the_area.Goals as goal

pub returns-clause-one : goal.returns-clause-one
returns-clause-one c = tile_is

pub returns-clause-within : goal.returns-clause-within
returns-clause-within c = tile_inside

pub returns-clause-disjoint : goal.returns-clause-disjoint
returns-clause-disjoint c = tiles_apart

pub returns-clause-areas : goal.returns-clause-areas
returns-clause-areas c = tile_fits
