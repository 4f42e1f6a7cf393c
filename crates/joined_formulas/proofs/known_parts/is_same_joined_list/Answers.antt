use Rattle.std.specs.Cmp.{signed_Decides}
use Rattle.std.proofs.Common.{sym}
use Rattle.std.proofs.lemmas.Slice.Eq.{slice_eq-Decides}
use Rattle.joined_formulas.proofs.known_parts.is_same_joined_list.Goals as goal

pub returns : goal.returns
returns c = λ yes. sym ((slice_eq-Decides signed_Decides c.args.numbers.now c.args.others.now c.eq.result c.eq.ensures).0 yes)
