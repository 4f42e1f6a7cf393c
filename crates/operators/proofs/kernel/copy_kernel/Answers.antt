use Rattle.std.specs.List.{each_same}
use Rattle.std.proofs.lemmas.List.Elements.{same_from_all_zip}
use Rattle.operators.proofs.kernel.copy_kernel.Goals as goal

pub returns : goal.returns
returns c = same_from_all_zip _ _ _ c.in_ok-clone.ensures.cases each_same
