use Rattle.std.proofs.Common.{arith, ℤ, ◌≡◌, ◌+◌, ◌/◌, pos, ◌-ℤ◌, ◌+ℤ◌, List, [], ◌∷◌, length, ap, sym, subst, ◌∙◌}
use Rattle.std.specs.Prelude.{All}
use Rattle.std.proofs.lemmas.Int.{ints}
use Rattle.std.proofs.lemmas.List.{length_push}
use Rattle.std.proofs.lemmas.List.Elements.{All-append, All-cons, All-nil}
use Rattle.domains.specs.Index.{Scale}
use Rattle.normal_formulas.specs.Rewrites.{Rewrites}
use Rattle.normal_formulas.specs.NormalSums.{terms_over}
use Rattle.normal_formulas.specs.NormalKernels.{row_over, rows_over, first_of}
use Rattle.normal_formulas.proofs.Rewriting.{same}
use Rattle.normal_formulas.proofs.KernelLaws.{rows_step, of_some}
use Rattle.normal_formulas.proofs.kernels.take_normal_kernel.Goals as goal

pub loop-place-init : goal.loop-place-init
loop-place-init c =
    let ts = c.args.terms.now.items in
    let height = c.args.kernel.height in
    let width = c.args.kernel.width in
    let IsWide : List ℤ → Type 0 = λ row. length row ≡ width in
    let none = c.in_ok-rows.ensures.items in (
      ap length none,
      subst (All IsWide) (sym none) (All-nil IsWide),
      λ s.
          same (terms_over s ts) (rows_over (terms_over s ts) c.args.kernel.stage (first_of height) (first_of width) c.in_ok-rows.rows.items)
          (ap (rows_over (terms_over s ts) c.args.kernel.stage (first_of height) (first_of width)) none),
    )

pub loop-place-preserved : goal.loop-place-preserved
loop-place-preserved c =
    let ts = c.args.terms.now.items in
    let before = c.loop-place.terms.items in
    let left = c.take_normal_factors.new.terms.items in
    let g = c.args.kernel.stage in
    let height = c.args.kernel.height in
    let width = c.args.kernel.width in
    let IsWide : List ℤ → Type 0 = λ row. length row ≡ width in
    let factors = c.in-Some-2.factors in
    let rows = c.loop-place.rows.items in
    let row : ℤ = pos c.loop-place.place -ℤ pos (height / 2) in
    let count : length rows ≡ c.loop-place.place = c.loop-place.invariant.0 in
    let there : row ≡ first_of height +ℤ pos (length rows) = omega (arith, ints, count) in
    let wide : IsWide factors = of_some _ c.in_ok-factors.field-0 factors c.in-Some-2.is c.in_ok-factors.ensures.count in
    let more = c.in_ok-push.ensures.items in (
      ap length more ∙ length_push rows factors ∙ ap (λ n. n + 1) count,
      subst (All IsWide) (sym more)
          (All-append IsWide rows (factors ∷ []) c.loop-place.invariant.1 (All-cons IsWide factors [] wide (All-nil IsWide))),
      λ s.
          subst (λ (ys : List (List ℤ)). Rewrites (terms_over s ts) (rows_over (terms_over s left) g (first_of height) (first_of width) ys)) (sym more)
          (rows_step (terms_over s ts) (terms_over s before) (terms_over s left) g (first_of height) (first_of width) row factors rows there
          (c.loop-place.invariant.2 s)
          (subst (λ (i : Scale). Rewrites (terms_over s before) (row_over (terms_over s left) g i (first_of width) factors)) c.in-Some.ensures
          (of_some _ c.in_ok-factors.field-0 factors c.in-Some-2.is c.in_ok-factors.ensures.value s))),
    )
