use Rattle.std.proofs.Common.{◌∙◌}
use Rattle.row_plans.proofs.Checking.{same_area}
use Rattle.row_plans.proofs.stage_rows_read.StageRowsRead.has_area_of_row_state.Goals as goal

pub returns : goal.returns
returns c = λ yes.
    let same = c.has_area.ensures yes in
    same_area c.args.state.now.area c.area.result same.0 same.1 ∙ c.area.ensures
