use Rattle.std.proofs.Common.{rules, FitsSigned, w32, ap, ◌∙◌, to_z, unsigned_abs}
use Rattle.std.proofs.lemmas.Int.{to_z-of_z}
use Rattle.domains.proofs.Wrapping.{abs_wrapped}
use Rattle.domains.proofs.arithmetic.wrapping_abs.Goals as goal

pub returns : goal.returns
returns c =
    let a : FitsSigned w32 c.args.a = search rules in
    let result : FitsSigned w32 c.wrapping_abs.result = search rules in
    abs_wrapped c.args.a _ a result (c.wrapping_abs.ensures ∙ ap (λ z. to_z w32 (unsigned_abs z)) (to_z-of_z w32 c.args.a a))
