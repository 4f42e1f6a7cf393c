use Rattle.std.proofs.Common.{rules, FitsSigned, w32}
use Rattle.domains.proofs.Wrapping.{shl_wrapped}
use Rattle.domains.proofs.arithmetic.wrapping_shl.Goals as goal

pub returns : goal.returns
returns c =
    let a : FitsSigned w32 c.args.a = search rules in
    shl_wrapped c.args.a c.args.count a c.requires
