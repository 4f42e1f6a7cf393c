use Rattle.linear_rows.proofs.LinearQuotients.{shifted_alone, shifted_quotient}
use Rattle.linear_rows.proofs.linear_make.LinearMake.divide_linear_sums.Goals as goal

pub returns-in-Shr : goal.returns-in-Shr
returns-in-Shr c = λ k l.
    let make = c.shift_linear_quotients.ensures in
    shifted_alone c.args.self _ _ c.in-Shr.is make.bits make.low make.high

pub returns-in_default : goal.returns-in_default
returns-in_default c = λ k l.
    let make = c.shift_linear_quotients-in_default.ensures in
    shifted_quotient c.args.self _ _ _ (c.write_literal_op_results_to_row.ensures k l) make.bits make.low make.high
