use Rattle.domains.proofs.Floors.{floor_splits, floor_only, floor_div_rises}
use Rattle.domains.proofs.laws.floor_division_rounds_down.Goals as goal

pub returns-clause-splits : goal.returns-clause-splits
returns-clause-splits c = floor_splits

pub returns-clause-only : goal.returns-clause-only
returns-clause-only c = floor_only

pub returns-clause-rises : goal.returns-clause-rises
returns-clause-rises c = floor_div_rises
