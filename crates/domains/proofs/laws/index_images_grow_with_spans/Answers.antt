use Rattle.domains.proofs.Indices.{index_rises, images_rise, image_is, image_fits, image-hull}
use Rattle.domains.proofs.laws.index_images_grow_with_spans.Goals as goal

pub returns-clause-rises : goal.returns-clause-rises
returns-clause-rises c = index_rises

pub returns-clause-grows : goal.returns-clause-grows
returns-clause-grows c = images_rise

pub returns-clause-is : goal.returns-clause-is
returns-clause-is c = image_is

pub returns-clause-fits : goal.returns-clause-fits
returns-clause-fits c = image_fits

pub returns-clause-hulls : goal.returns-clause-hulls
returns-clause-hulls c = image-hull
