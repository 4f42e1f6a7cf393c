use Rattle.domains.proofs.Covers.{tile_begins, Contains-tiles_of, tiles_in_order}
use Rattle.domains.proofs.laws.grid_tiles_are_listed_once.Goals as goal

pub returns-clause-begins : goal.returns-clause-begins
returns-clause-begins c = tile_begins

pub returns-clause-all : goal.returns-clause-all
returns-clause-all c = Contains-tiles_of

pub returns-clause-order : goal.returns-clause-order
returns-clause-order c = tiles_in_order
