use Rattle.job.proofs.BoxLaws.{box_is_cut, box_is_area}
use Rattle.job.proofs.laws.job_case_areas_are_cut_by_bounds.Goals as goal

pub returns-clause-cut : goal.returns-clause-cut
returns-clause-cut c = box_is_cut

pub returns-clause-area : goal.returns-clause-area
returns-clause-area c = box_is_area
