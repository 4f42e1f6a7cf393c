use Rattle.domains.proofs.Covers.{cover_holds}
use Rattle.domains.proofs.laws.grid_covers_hold_common_points.Goals as goal

pub returns : goal.returns
returns c = cover_holds
