use Rattle.std.proofs.Common.{rules}
use Rattle.domains.proofs.Grids.{counts_tiles}
use Rattle.domains.proofs.grid.Grid.tiles.Goals as goal

pub returns-clause-count : goal.returns-clause-count
returns-clause-count c = counts_tiles _ c.args.self.now (search rules)
