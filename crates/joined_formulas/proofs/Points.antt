-- A kernel of one factor 1 is a read of the point itself.
use Rattle.std.proofs.Common.{arith, ℕ, ℤ, pos, ◌≡◌, ◌+ℤ◌, ◌*ℤ◌, ◌-ℤ◌, w32, List, [], ◌∷◌, ap, sym, subst, ◌∙◌}
use Rattle.std.proofs.lemmas.Int.{ints, int_wrap_fits}
use Rattle.std.proofs.lemmas.List.Elements.{All-nil, All-cons, All-head}
use Rattle.domains.specs.Arithmetic.{floor_div, wrapped}
use Rattle.domains.specs.Index.{Scale, IsIndex, index_at}
use Rattle.operators.specs.declared.operator.LiteralOp.TheVariants.{Div}
use Rattle.job.specs.Formula.{read, literal, stencil}
use Rattle.job.specs.Reads.{point, window, stage_read, EachRead, EachTaken}
use Rattle.job.specs.Values.{Valuation, kernel_column, kernel_row, weighted_sum}
use Rattle.normal_formulas.specs.Rewrites.{Fits32, Rewrites}
use Rattle.normal_formulas.proofs.Standing.{Stands, rewrites}
use Rattle.normal_formulas.proofs.Products.{one_times}

-- the kernel of the point itself
abbrev pub own_kernel : List (List ℤ)
own_kernel = (pos 1 ∷ []) ∷ []

middle : (v : ℤ) → v +ℤ pos 0 -ℤ pos 0 ≡ v
middle v = omega (arith, ints)

alone : (z : ℤ) → pos 0 +ℤ (pos 0 +ℤ z) ≡ z
alone z = omega (arith, ints)

module _ (g divisor : ℕ) (own : Scale) (is_own : (v : ℤ) → index_at own v ≡ v) where
  own_row : (r : ℤ) → kernel_row own_kernel r 0 ≡ index_at own r
  own_row r = middle r ∙ sym (is_own r)

  one_value : (env : Valuation) (r c : ℤ) → weighted_sum own_kernel (env g) r c ≡ env g (index_at own r) (index_at own c)
  one_value env r c =
      alone (pos 1 *ℤ env g (kernel_row own_kernel r 0) (kernel_column own_kernel c 0))
      ∙ one_times (env g (kernel_row own_kernel r 0) (kernel_column own_kernel c 0))
      ∙ (λ i. env g (own_row r i) (own_row c i))

  the_point : (P : ℕ → ℤ → ℤ → Type 0) (r c : ℤ) → EachRead P (stencil g divisor own_kernel) r c → P g (index_at own r) (index_at own c)
  the_point P r c each =
      let at : EachTaken P (window g own_kernel) r c = All-head (λ x. EachTaken P x r c) (window g own_kernel) [] each in
      subst (λ (b : ℤ). P g (index_at own r) b) (own_row c)
      (subst (λ (a : ℤ). P g a (kernel_column own_kernel c 0)) (own_row r) (at 0 0 (omega arith) (omega arith)))

  point_stands : IsIndex own → Stands (stencil g divisor own_kernel) (literal Div (read g own own) divisor)
  point_stands index =
      record {
        formula = λ is. (is.0, (index, index));
        value = λ env r c is rows columns fit.
            ap (λ (z : ℤ). floor_div z (pos divisor))
            (sym (ap wrapped (one_value env r c) ∙ int_wrap_fits w32 (env g (index_at own r) (index_at own c)) (the_point (Fits32 env) r c fit)));
        reads = λ P r c each.
            All-cons (λ x. EachTaken P x r c) (point g own own) [] (the_point P r c each) (All-nil (λ x. EachTaken P x r c));
        stages = λ P is each.
            All-cons (λ x. P (stage_read x)) (point g own own) [] (All-head (λ x. P (stage_read x)) (window g own_kernel) [] each)
            (All-nil (λ x. P (stage_read x)));
        back = λ P is each.
            All-cons (λ x. P (stage_read x)) (window g own_kernel) [] (All-head (λ x. P (stage_read x)) (point g own own) [] each)
            (All-nil (λ x. P (stage_read x)));
      }

  pub point_read : IsIndex own → Rewrites (stencil g divisor own_kernel) (literal Div (read g own own) divisor)
  point_read index = rewrites (stencil g divisor own_kernel) (literal Div (read g own own) divisor) (point_stands index)
