use Rattle.std.proofs.Common.{rules, ◌≡◌}
use Rattle.narrow_sums.proofs.NearLaws.{near_part}
use Rattle.narrow_sums.proofs.bounds.is_near_narrow_sum_part.Goals as goal

pub returns : goal.returns
returns c = λ same.
    let d = c.in-Difference.difference in
    let low : d.low ≡ c.args.bounds.low = search rules in
    let high : d.high ≡ c.args.bounds.high = search rules in
    near_part c.args.center.now c.args.bounds c.args.part.now d c.in-Difference.is low high (c.is_same_narrow_sum_read.ensures same)
