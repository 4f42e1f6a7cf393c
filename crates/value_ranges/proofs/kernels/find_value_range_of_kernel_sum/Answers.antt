use Rattle.std.proofs.Common.{arith}
use Rattle.std.proofs.lemmas.Int.{ints}
use Rattle.job.specs.Values.{kernel_row, kernel_column, weighted_sum}
use Rattle.value_ranges.proofs.Ends.{wrapped_in_full}
use Rattle.value_ranges.proofs.kernels.find_value_range_of_kernel_sum.Goals as goal

pub returns-in-Some : goal.returns-in-Some
returns-in-Some c = λ f r c' under.
    let sum = c.in-Some.ensures (λ a b. f (kernel_row c.args.kernel.now r a) (kernel_column c.args.kernel.now c' b)) under in
    let low = sum.low in let high = sum.high in
    c.wrap_value_range.ensures (weighted_sum c.args.kernel.now f r c') (omega (arith, ints)) (omega (arith, ints))

pub returns-in-None : goal.returns-in-None
returns-in-None c = λ f r c' under. wrapped_in_full c.full_value_range.result _ c.full_value_range.ensures
