use Rattle.job.proofs.SideLaws.{same_image, same_totals, same_values}
use Rattle.job.proofs.laws.job_answers_do_not_depend_on_tiling.Goals as goal

pub returns-clause-values : goal.returns-clause-values
returns-clause-values c = same_values

pub returns-clause-image : goal.returns-clause-image
returns-clause-image c = same_image

pub returns-clause-totals : goal.returns-clause-totals
returns-clause-totals c = same_totals
