use Rattle.std.proofs.Common.{◌≡◌, ◌+◌, ◌-◌, ◌*◌, ◌/◌, length, take, drop, ap, subst, ◌∙◌}
use Rattle.column_phases.proofs.RowLaws.{woven_four, Given}
use Rattle.column_phases.proofs.weaving.weave_rows_of_four_column_phases.Goals as goal

pub returns : goal.returns
returns g c = λ d.
    let rows = c.args.rows.now in
    let n = length c.args.out.now in
    let out = c.weave_four_column_phases.new.out in
    let s = length rows - length rows / 4 in
    let is : s ≡ n - n / 4 = (λ i. c.requires i - c.requires i / 4) in
    let most = c.split_at.ensures.front in
    let len : length c.split_at.result.0.now ≡ s = c.split_at.ensures.front_len in
    let t = length c.split_at.result.0.now - length c.split_at.result.0.now / 3 in
    let it : t ≡ s - s / 3 = (λ i. len i - len i / 3) in
    let front = c.split_at-2.ensures.front ∙ ap (take t) most in
    let shorter : length c.split_at-2.result.0.now ≡ t = c.split_at-2.ensures.front_len in
    let u = length c.split_at-2.result.0.now - length c.split_at-2.result.0.now / 2 in
    let iu : u ≡ t - t / 2 = (λ i. shorter i - shorter i / 2) in
    woven_four d c.weave_four_column_phases.new.out rows n c.requires s t u is it iu
    (subst (Given d out rows n c.requires (λ q. 4 * q)) (c.split_at-3.ensures.front ∙ ap (take u) front) (c.weave_four_column_phases.ensures.first d))
    (subst (Given d out rows n c.requires (λ q. 4 * q + 1)) (c.split_at-3.ensures.back ∙ ap (drop u) front)
    (c.weave_four_column_phases.ensures.second d))
    (subst (Given d out rows n c.requires (λ q. 4 * q + 2)) (c.split_at-2.ensures.back ∙ ap (drop t) most) (c.weave_four_column_phases.ensures.third d))
    (subst (Given d out rows n c.requires (λ q. 4 * q + 3)) c.split_at.ensures.back (c.weave_four_column_phases.ensures.fourth d))
