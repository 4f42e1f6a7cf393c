use Rattle.std.proofs.Common.{rules, arith, ◌≡◌, ◌<◌, ◌+◌, ◌+ℤ◌, ◌∙◌, ℕ, ℤ, pos, length}
use Rattle.std.proofs.lemmas.Int.{ints}
use Rattle.job.specs.Values.{formula_value}
use Rattle.job.specs.Views.{formula_view}
use Rattle.value_ranges.specs.Narrow.{Fits16}
use Rattle.linear_rows.specs.inside.LinearSums.{AreTapsRead}
use Rattle.linear_rows.proofs.LinearQuotients.{both_parts, in_last_part}
use Rattle.linear_rows.proofs.linear_quotients.+write_linear_parts.Goals as goal

pub write_linear_parts-requires : goal.write_linear_parts-requires
write_linear_parts-requires g t c κs within =
    let points = c.args.points.now in
    let quotient = c.args.quotient.now in
    let source = c.args.source.now in
    let rest = c.slice_points-rest.result in
    let told = c.slice_points-rest.ensures in
    let left : 512 < points.len = omega (arith, c.if-out-le-PART.false, c.requires.fits) in (
      search rules,
      (
        search rules,
        (
          omega (arith, told.len, c.split_at_mut-front.ensures.back_len, c.requires.fits),
          (
            (λ k l.
                in_last_part (λ (r d : ℤ). AreTapsRead (g.S.NarrowSource.has source) r d quotient.sum.taps.items) points.row points.col rest.row rest.col 512 k
                told.row told.col (c.requires.reads (512 + k) (omega (arith, l, told.len, left)))),
            (λ k l.
                in_last_part (λ (r d : ℤ). Fits16 (formula_value (g.S.NarrowSource.samples source) (formula_view quotient.formula.now) r d))
                points.row points.col rest.row rest.col 512 k told.row told.col (c.requires.narrow (512 + k) (omega (arith, l, told.len, left)))),
          ),
        ),
      ),
    )

pub returns-else-out-le-PART : goal.returns-else-out-le-PART
returns-else-out-le-PART g t c = λ k l.
    let points = c.args.points.now in
    let value : ℤ → ℤ → ℤ = formula_value (g.S.NarrowSource.samples c.args.source.now) (formula_view c.args.quotient.now.formula.now) in
    let first = c.first_points.ensures in
    let rest = c.slice_points-rest.ensures in
    let long = c.split_at_mut-front.ensures.front_len in
    let short = c.split_at_mut-front.ensures.back_len in
    let kept = c.write_linear_part-else-out-le-PART.auto.out in
    let behind = c.write_linear_parts.auto.out in
    let front = c.write_linear_part-else-out-le-PART.new.out in
    let back = c.write_linear_parts.new.out in
    let place : (n : ℕ) → c.slice_points-rest.result.col +ℤ pos n ≡ points.col +ℤ pos (length front + n) =
    λ n. omega (arith, ints, rest.col, kept, long) in
    both_parts (λ (n : ℕ). value points.row (points.col +ℤ pos n)) front back
    (λ n p. c.write_linear_part-else-out-le-PART.ensures n (omega (arith, p, kept)) ∙ (λ i. value (first.row i) (first.col i +ℤ pos n)))
    (λ n p. c.write_linear_parts.ensures n (omega (arith, p, behind)) ∙ (λ i. value (rest.row i) (place n i)))
    k (omega (arith, l, kept, behind, long, short, c.if-out-le-PART.false))
