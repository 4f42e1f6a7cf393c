use Rattle.std.proofs.Common.{rules, arith, ℕ, ◌≡◌, ◌<◌, ◌≤◌, ◌+◌, ◌-◌, ◌*◌, ◌/◌, ◌%◌, pos, length, slice_index_or, ap, sym, ◌∙◌, w16, FitsSigned}
use Rattle.std.proofs.Math.Nat.{mod-lt}
use Rattle.std.proofs.lemmas.Int.{to_z-of_z}
use Rattle.std.proofs.lemmas.Nat.{div-add-mod', div-mul-add}
use Rattle.row_loops.specs.Rows.{at}
use Rattle.row_loops.proofs.Writing.{EachPlace-more}
use Rattle.narrow_kernels.proofs.narrow_gathering.gather_divided_of_narrow_line.Goals as goal
use Rattle.narrow_kernels.proofs.narrow_gathering.gather_divided_of_narrow_line.Goals.{then-rest-divisor, else-rest-divisor}

-- a step goes on by whole places, and by one more where so much is left
goes_over : (g r w p d l k s : ℕ) → g * d + r ≡ l + k * s → w * d + p ≡ s → d ≤ r + p → (g + w + 1) * d + (r + p - d) ≡ l + (k + 1) * s
goes_over g r w p d l k s e h more = omega arith

goes_on : (g r w p d l k s : ℕ) → g * d + r ≡ l + k * s → w * d + p ≡ s → (g + w) * d + (r + p) ≡ l + (k + 1) * s
goes_on g r w p d l k s e h = omega arith

pub loop-k-preserved : goal.loop-k-preserved
loop-k-preserved c =
    let lt : c.loop-k.k < length c.loop-k.out = search rules in
    let some : 0 < c.args.divisor = omega arith in
    let step = div-add-mod' c.args.step c.args.divisor in
    let below : c.args.step % c.args.divisor < c.args.divisor = mod-lt c.args.step some in
    let sum = c.loop-k.invariant.1 in
    let left : c.loop-k.rest < c.args.divisor = c.loop-k.invariant.2 in
    let place : (c.args.left + c.loop-k.k * c.args.step) / c.args.divisor ≡ c.loop-k.gap =
    ap (λ (n : ℕ). n / c.args.divisor) (sym sum) ∙ div-mul-add c.loop-k.gap c.args.divisor c.loop-k.rest left in
    let fits : FitsSigned w16 (slice_index_or c.args.line.now (c.args.from + c.loop-k.gap) (pos 0)) = search rules in (
      EachPlace-more (λ (k : ℕ). at c.args.line.now (c.args.from + (c.args.left + k * c.args.step) / c.args.divisor)) c.loop-k.out c.loop-k.k _ lt
          (to_z-of_z w16 _ fits ∙ ap (λ (n : ℕ). at c.args.line.now (c.args.from + n)) (sym place)) c.loop-k.invariant.0,
      elim c.if-rest-divisor.branch [
        | then-rest-divisor w ↦ omega (
          arith,
          ap (λ (n : ℕ). n * c.args.divisor) w.gap-is,
          w.rest-is,
          goes_over c.loop-k.gap c.loop-k.rest (c.args.step / c.args.divisor) (c.args.step % c.args.divisor) c.args.divisor c.args.left c.loop-k.k
              c.args.step sum step (omega arith),
        )
        | else-rest-divisor w ↦ omega (
          arith,
          ap (λ (n : ℕ). n * c.args.divisor) w.gap-is,
          w.rest-is,
          goes_on c.loop-k.gap c.loop-k.rest (c.args.step / c.args.divisor) (c.args.step % c.args.divisor) c.args.divisor c.args.left c.loop-k.k
              c.args.step sum step,
        )
      ],
      elim c.if-rest-divisor.branch [
        | then-rest-divisor w ↦ omega (arith, w.rest-is, left, below)
        | else-rest-divisor w ↦ omega (arith, w.rest-is, left, below)
      ],
    )
