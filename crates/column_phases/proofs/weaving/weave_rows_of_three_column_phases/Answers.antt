use Rattle.std.proofs.Common.{◌≡◌, ◌+◌, ◌-◌, ◌*◌, ◌/◌, length, take, drop, ap, subst, ◌∙◌}
use Rattle.column_phases.proofs.RowLaws.{woven_three, Given}
use Rattle.column_phases.proofs.weaving.weave_rows_of_three_column_phases.Goals as goal

pub returns : goal.returns
returns g c = λ d.
    let rows = c.args.rows.now in
    let n = length c.args.out.now in
    let out = c.weave_three_column_phases.new.out in
    let s = length rows - length rows / 3 in
    let is : s ≡ n - n / 3 = (λ i. c.requires i - c.requires i / 3) in
    let front = c.split_at.ensures.front in
    let len : length c.split_at.result.0.now ≡ s = c.split_at.ensures.front_len in
    let t = length c.split_at.result.0.now - length c.split_at.result.0.now / 2 in
    let it : t ≡ s - s / 2 = (λ i. len i - len i / 2) in
    woven_three d c.weave_three_column_phases.new.out rows n c.requires s t is it
    (subst (Given d out rows n c.requires (λ q. 3 * q)) (c.split_at-2.ensures.front ∙ ap (take t) front) (c.weave_three_column_phases.ensures.first d))
    (subst (Given d out rows n c.requires (λ q. 3 * q + 1)) (c.split_at-2.ensures.back ∙ ap (drop t) front)
    (c.weave_three_column_phases.ensures.second d))
    (subst (Given d out rows n c.requires (λ q. 3 * q + 2)) c.split_at.ensures.back (c.weave_three_column_phases.ensures.third d))
