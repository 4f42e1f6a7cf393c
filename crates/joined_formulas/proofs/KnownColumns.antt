-- What stands for a stencil of which a stage has the sums down columns.
use Rattle.std.proofs.Common.{ℕ, ℤ, List, [], ◌∷◌, subst}
use Rattle.std.proofs.lemmas.List.Elements.{All-contains}
use Rattle.job.specs.Formula.{Formula, stencil}
use Rattle.job.specs.Pipeline.{Pipeline}
use Rattle.job.specs.Views.{formula_view}
use Rattle.stencil_kernels.specs.Separable.{IsSeparable}
use Rattle.joined_formulas.specs.Columns.{column_formula, IsColumn}
use Rattle.joined_formulas.specs.Joins.{AreFormulasOf, IsFormulaOf, IsKnown, IsWhole, Joins}
use Rattle.joined_formulas.specs.declared.known.StageFormula.{StageFormula}
use Rattle.joined_formulas.proofs.ColumnLaws.{in_two_steps}

module _ (job : Pipeline) (known : List StageFormula) (of : AreFormulasOf job known) (source : ℕ) (down : List ℤ) (v : ℕ)
    (is : IsColumn known source down v) where
  entry_known : IsKnown job is.entry
  entry_known = All-contains (IsKnown job) known is.entry of is.there

  column_of : IsFormulaOf job v (column_formula source down)
  column_of =
      subst (λ (f : Formula). IsFormulaOf job v f) is.is
      (subst (λ (n : ℕ). IsFormulaOf job n (formula_view is.entry.formula)) is.of entry_known.formula)

  column_whole : IsWhole job v (column_formula source down)
  column_whole =
      subst (λ (f : Formula). IsWhole job v f) is.is
      (subst (λ (n : ℕ). IsWhole job n (formula_view is.entry.formula)) is.of (entry_known.whole is.whole))

pub split_stencil : (known : List StageFormula) (source v divisor : ℕ) (kernel : List (List ℤ)) (down along : List ℤ)
    → IsColumn known source down v → IsSeparable kernel down along → Joins known (stencil source divisor kernel) (stencil v divisor (along ∷ []))
split_stencil known source v divisor kernel down along is product =
    record {
      stands = λ job whole of.
          in_two_steps job source v divisor kernel down along product (column_of job known of source down v is)
          (column_whole job known of source down v is);
    }
