use Rattle.raw_rows.proofs.RowLaws.{raw_rows_are_raster}
use Rattle.raw_rows.proofs.laws.raw_rows_are_the_raster.Goals as goal

pub returns : goal.returns
returns c = raw_rows_are_raster
