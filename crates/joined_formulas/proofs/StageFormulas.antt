-- What stands for reads and stencils of stages of which a formula is known.
use Rattle.std.proofs.Common.{ℕ, ℤ, pos, ◌≡◌, ◌*ℤ◌, List, [], length, ap, sym, subst, ◌∙◌}
use Rattle.std.specs.Prelude.{slice_index_or}
use Rattle.std.proofs.lemmas.List.Elements.{All-nil, All-cons, All-head, All-contains}
use Rattle.domains.specs.Arithmetic.{floor_div, wrapped}
use Rattle.domains.specs.Index.{Scale, index_at}
use Rattle.job.specs.Formula.{Formula, read, stencil}
use Rattle.job.specs.Pipeline.{Pipeline}
use Rattle.job.specs.Reads.{point, window, EachTaken, EachRead}
use Rattle.job.specs.Values.{factors, kernel_row, kernel_column, value, weighted_sum}
use Rattle.job.specs.Views.{formula_view}
use Rattle.job.specs.WellFormed.{IsReadable}
use Rattle.operators.proofs.KernelSums.{sum_below-agrees}
use Rattle.joined_formulas.specs.StandsIn.{StandsIn}
use Rattle.joined_formulas.specs.Joins.{AreFormulasOf, IsFormulaOf, IsKnown, Joins}
use Rattle.joined_formulas.specs.inside.Found.{IsFound, IsSource}
use Rattle.joined_formulas.specs.inside.Moved.{IsAt}
use Rattle.joined_formulas.specs.declared.known.StageFormula.{StageFormula}

module _ (job : Pipeline) (known : List StageFormula) (of : AreFormulasOf job known) where
  formula_of : (g : ℕ) (f : Formula) → IsFound known g f → IsFormulaOf job g f
  formula_of g f found =
      subst (λ (h : Formula). IsFormulaOf job g h) found.is
      (subst (λ (n : ℕ). IsFormulaOf job n (formula_view found.entry.formula)) found.of
      (All-contains (IsKnown job) known found.entry of found.there).formula)

  the_read : (g : ℕ) (i j : Scale) (r c : ℤ) → EachRead (IsReadable job.stages) (read g i j) r c
      → IsReadable job.stages g (index_at i r) (index_at j c)
  the_read g i j r c each = All-head (λ x. EachTaken (IsReadable job.stages) x r c) (point g i j) [] each

  moved_stands : (g : ℕ) (i j : Scale) (f h : Formula) → IsFormulaOf job g f → IsAt i j f h → StandsIn job (read g i j) h
  moved_stands g i j f h is at =
      record {
        formula = λ indices. at.formula indices.0 indices.1 is.formula;
        reads = λ r c each. at.reads job.stages r c (is.reads (index_at i r) (index_at j c) (the_read g i j r c each));
        value = λ r c formula rows columns each.
            at.value (value job) r c ∙ is.value (index_at i r) (index_at j c) (the_read g i j r c each);
      }

  -- ---- stencils

  the_window : (g : ℕ) (kernel : List (List ℤ)) (divisor : ℕ) (r c : ℤ) → EachRead (IsReadable job.stages) (stencil g divisor kernel) r c
      → EachTaken (IsReadable job.stages) (window g kernel) r c
  the_window g kernel divisor r c each = All-head (λ x. EachTaken (IsReadable job.stages) x r c) (window g kernel) [] each

  module _ (g source : ℕ) (is : IsSource known g source) where
    copied : IsFormulaOf job g (read source is.row is.column)
    copied = formula_of g (read source is.row is.column) is.found

    source_readable : (r c : ℤ) → IsReadable job.stages g r c → IsReadable job.stages source r c
    source_readable r c x =
        subst (λ (b : ℤ). IsReadable job.stages source r b) (is.own_column c)
        (subst (λ (a : ℤ). IsReadable job.stages source a (index_at is.column c)) (is.own_row r)
        (the_read source is.row is.column r c (copied.reads r c x)))

    source_value : (r c : ℤ) → IsReadable job.stages g r c → value job source r c ≡ value job g r c
    source_value r c x =
        ap (value job source r) (sym (is.own_column c))
        ∙ ap (λ (a : ℤ). value job source a (index_at is.column c)) (sym (is.own_row r))
        ∙ copied.value r c x

    same_sum : (kernel : List (List ℤ)) (r c : ℤ) → EachTaken (IsReadable job.stages) (window g kernel) r c
        → weighted_sum kernel (value job source) r c ≡ weighted_sum kernel (value job g) r c
    same_sum kernel r c taken =
        sum_below-agrees (length kernel) _ _ (λ a la. sum_below-agrees (length (factors kernel a)) _ _ (λ b lb.
        ap (λ (z : ℤ). slice_index_or (factors kernel a) b (pos 0) *ℤ z)
        (source_value (kernel_row kernel r a) (kernel_column kernel c b) (taken a b la lb))))

    stencil_stands : (divisor : ℕ) (kernel : List (List ℤ)) → StandsIn job (stencil g divisor kernel) (stencil source divisor kernel)
    stencil_stands divisor kernel =
        record {
          formula = λ is. is;
          reads = λ r c each.
              All-cons (λ x. EachTaken (IsReadable job.stages) x r c) (window source kernel) []
              (λ a b la lb. source_readable (kernel_row kernel r a) (kernel_column kernel c b)
              (the_window g kernel divisor r c each a b la lb))
              (All-nil (λ x. EachTaken (IsReadable job.stages) x r c));
          value = λ r c formula rows columns each.
              ap (λ (z : ℤ). floor_div (wrapped z) (pos divisor)) (same_sum kernel r c (the_window g kernel divisor r c each));
        }

pub moved_read : (known : List StageFormula) (g : ℕ) (i j : Scale) (f h : Formula) → IsFound known g f → IsAt i j f h
    → Joins known (read g i j) h
moved_read known g i j f h found at =
    record { stands = λ job is of. moved_stands job known of g i j f h (formula_of job known of g f found) at }

pub copied_stencil : (known : List StageFormula) (g source divisor : ℕ) (kernel : List (List ℤ)) → IsSource known g source
    → Joins known (stencil g divisor kernel) (stencil source divisor kernel)
copied_stencil known g source divisor kernel found =
    record { stands = λ job is of. stencil_stands job known of g source found divisor kernel }
