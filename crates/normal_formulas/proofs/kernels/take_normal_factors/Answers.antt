use Rattle.std.proofs.Common.{arith, rules, FitsSigned, w32, ℤ, ◌≡◌, ◌+◌, ◌/◌, pos, ◌-ℤ◌, ◌+ℤ◌, List, [], ◌∷◌, ◌++◌, length, ap, sym, subst, ◌∙◌}
use Rattle.std.proofs.lemmas.Int.{ints, to_z-of_z}
use Rattle.std.proofs.lemmas.List.{length_push}
use Rattle.domains.specs.Index.{Scale}
use Rattle.operators.specs.declared.operator.BinaryOp.TheVariants.{Add}
use Rattle.job.specs.Formula.{read, binary}
use Rattle.normal_formulas.specs.Rewrites.{Rewrites}
use Rattle.normal_formulas.specs.NormalSums.{product, terms_over}
use Rattle.normal_formulas.specs.NormalKernels.{row_over, first_of}
use Rattle.normal_formulas.proofs.Rewriting.{same}
use Rattle.normal_formulas.proofs.KernelLaws.{row_step}
use Rattle.normal_formulas.proofs.kernels.take_normal_factors.Goals as goal

pub loop-place-init : goal.loop-place-init
loop-place-init c =
    let ts = c.args.terms.now.items in
    let none = c.in_ok-factors.ensures.items in (
      ap length none,
      λ s.
          same (terms_over s ts) (row_over (terms_over s ts) c.args.kernel.stage c.args.row (first_of c.args.kernel.width) c.in_ok-factors.factors.items)
          (ap (row_over (terms_over s ts) c.args.kernel.stage c.args.row (first_of c.args.kernel.width)) none),
    )

pub loop-place-preserved : goal.loop-place-preserved
loop-place-preserved c =
    let ts = c.args.terms.now.items in
    let before = c.loop-place.terms.items in
    let left = c.take_normal_read.new.terms.items in
    let g = c.args.kernel.stage in
    let row = c.args.row in
    let width = c.args.kernel.width in
    let f = c.in-Some-take_normal_read.factor in
    let xs = c.loop-place.factors.items in
    let column : ℤ = pos c.loop-place.place -ℤ pos (width / 2) in
    let count : length xs ≡ c.loop-place.place = c.loop-place.invariant.0 in
    let there : column ≡ first_of width +ℤ pos (length xs) = omega (arith, ints, count) in
    let fits : FitsSigned w32 f = search rules in
    let more : c.push.new.self.items ≡ xs ++ f ∷ [] =
    c.in_ok-push.ensures.items ∙ ap (λ (z : ℤ). xs ++ z ∷ []) (to_z-of_z w32 f fits) in (
      ap length more ∙ length_push xs f ∙ ap (λ n. n + 1) count,
      λ s.
          subst (λ (ys : List ℤ). Rewrites (terms_over s ts) (row_over (terms_over s left) g row (first_of width) ys)) (sym more)
          (row_step (terms_over s ts) (terms_over s before) (terms_over s left) g row (first_of width) column f xs there
          (c.loop-place.invariant.1 s)
          (subst (λ (i : Scale). Rewrites (terms_over s before) (binary Add (product f (read g row i)) (terms_over s left))) c.in-Some.ensures
          (c.in-Some-take_normal_read.ensures s))),
    )
