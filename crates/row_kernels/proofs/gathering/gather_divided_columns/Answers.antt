use Rattle.std.proofs.Common.{rules, ℕ, ◌≡◌, ◌+◌, ◌/◌, subst, ap, sym, ◌∙◌}
use Rattle.row_kernels.specs.inside.Divided.{compute_column_offset_at_place}
use Rattle.row_kernels.proofs.Dividing.{halves_go}
use Rattle.row_kernels.proofs.gathering.gather_divided_columns.Goals as goal

pub gather_each_twice-requires-clause-there : goal.gather_each_twice-requires-clause-there
gather_each_twice-requires-clause-there g c = λ k h.
    let one : c.args.columns.now.step ≡ 1 = search rules in
    let two : c.args.columns.now.reciprocal.divisor ≡ 2 = search rules in
    let left : c.first_remainder.result ≡ c.args.columns.now.left = search rules in
    let goes : compute_column_offset_at_place c.args.columns.now k ≡ (c.first_remainder.result + k) / 2 =
    halves_go c.args.columns.now.left k _ _ one two ∙ ap (λ (n : ℕ). (n + k) / 2) (sym left) in
    subst (λ (n : ℕ). g.V.RowNumbers.has c.args.numbers (c.args.place + n)) goes (c.requires.there k h)
