use Rattle.std.proofs.Common.{rules, FitsSigned, w32}
use Rattle.row_kernels.proofs.LastBits.{last_bits_are}
use Rattle.wide_divisions.proofs.digits.compute_division_step_remainder.Goals as goal

pub returns : goal.returns
returns c =
    let number : FitsSigned w32 c.args.number = search rules in
    let quotient : FitsSigned w32 c.floor_shr.result = search rules in
    let shifted : FitsSigned w32 c.wrapping_shl.result = search rules in
    let rest : FitsSigned w32 c.wrapping_sub.result = search rules in
    last_bits_are _ _ _ _ _ c.requires number quotient shifted rest c.floor_shr.ensures c.wrapping_shl.ensures c.wrapping_sub.ensures
