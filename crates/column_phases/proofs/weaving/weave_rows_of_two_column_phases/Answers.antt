use Rattle.std.proofs.Common.{◌≡◌, ◌+◌, ◌-◌, ◌*◌, ◌/◌, length, subst}
use Rattle.column_phases.proofs.RowLaws.{woven_two, Given}
use Rattle.column_phases.proofs.weaving.weave_rows_of_two_column_phases.Goals as goal

pub returns : goal.returns
returns g c = λ d.
    let rows = c.args.rows.now in
    let n = length c.args.out.now in
    let s = length rows - length rows / 2 in
    let is : s ≡ n - n / 2 = (λ i. c.requires i - c.requires i / 2) in
    woven_two d c.weave_two_column_phases.new.out rows n c.requires s is
    (subst (Given d c.weave_two_column_phases.new.out rows n c.requires (λ q. 2 * q)) c.split_at.ensures.front
    (c.weave_two_column_phases.ensures.first d))
    (subst (Given d c.weave_two_column_phases.new.out rows n c.requires (λ q. 2 * q + 1)) c.split_at.ensures.back
    (c.weave_two_column_phases.ensures.second d))
