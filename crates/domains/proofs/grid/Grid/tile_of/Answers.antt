use Rattle.std.proofs.Common.{rules}
use Rattle.domains.proofs.Grids.{tile_from}
use Rattle.domains.proofs.grid.Grid.tile_of.Goals as goal

pub returns-clause-some : goal.returns-clause-some
returns-clause-some c =
    tile_from c.args.self.now c.args.row c.args.col _ _ _ _ _ _ (search rules) (search rules) c.height.ensures.length c.width.ensures.length
    c.in_ok-i.ensures.some c.in_ok-j.ensures.some
