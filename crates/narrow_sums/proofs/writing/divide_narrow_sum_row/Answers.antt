use Rattle.narrow_sums.proofs.writing.divide_narrow_sum_row.Goals as goal

pub divide_near_narrow_sum_row-requires-clause-near : goal.divide_near_narrow_sum_row-requires-clause-near
divide_near_narrow_sum_row-requires-clause-near g c =
    c.args.row.now.near c.in-Some-Some.center c.in-Some-Some.bounds c.in-Some-Some.is-0 c.in-Some-Some.is-1
