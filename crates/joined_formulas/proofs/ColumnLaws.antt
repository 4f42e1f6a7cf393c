-- A kernel that is a product reads the sums down its columns along its row.
use Rattle.std.proofs.Common.{ℕ, zero, suc, ◌<◌, ◌≡◌, ℤ, pos, ◌*ℤ◌, List, [], ◌∷◌, length, refl, sym, ap, subst, ◌∙◌, arith}
use Rattle.std.specs.Prelude.{All}
use Rattle.std.proofs.lemmas.Int.{ints}
use Rattle.std.proofs.lemmas.List.Elements.{All-nil, All-cons, All-head}
use Rattle.domains.specs.Arithmetic.{wrapped, floor_div}
use Rattle.operators.proofs.KernelSums.{sum_below-agrees}
use Rattle.job.specs.Formula.{stencil}
use Rattle.job.specs.Pipeline.{Pipeline}
use Rattle.job.specs.Reads.{window, EachRead, EachTaken}
use Rattle.job.specs.Values.{factors, formula_value, kernel_row, kernel_column, sum_below, under, value, weighted_sum, Valuation}
use Rattle.job.specs.WellFormed.{IsDivisor, IsKernel, IsKernelSide, IsReadable}
use Rattle.normal_formulas.proofs.Laws.{divided_by_one}
use Rattle.row_loops.specs.Rows.{at}
use Rattle.stencil_kernels.specs.Separable.{IsSeparable}
use Rattle.stencil_kernels.proofs.Separating.{down_then_along}
use Rattle.joined_formulas.specs.Columns.{column_kernel, column_formula}
use Rattle.joined_formulas.specs.Joins.{IsFormulaOf, IsWhole}
use Rattle.joined_formulas.specs.StandsIn.{StandsIn}

-- ---- kernels of one column or of one row

pub column_height : (down : List ℤ) → length (column_kernel down) ≡ length down
column_height [] = refl
column_height (m ∷ down) = ap suc (column_height down)

column_row : (down : List ℤ) (a : ℕ) → a < length down → factors (column_kernel down) a ≡ at down a ∷ []
column_row [] a h = absurd (omega (arith, h))
column_row (m ∷ down) zero h = refl
column_row (m ∷ down) (suc a) h = column_row down a (omega (arith, h))

pub only_place : (v : ℤ) → under v 1 0 ≡ v
only_place v = omega (arith, ints)

pub only_below : (a : ℕ) → a < 1 → a ≡ zero
only_below a h = omega (arith, h)

one_term : (f : ℕ → ℤ) → sum_below 1 f ≡ f 0
one_term f = omega (arith, ints)

pub column_width : (down : List ℤ) (a : ℕ) → a < length down → length (factors (column_kernel down) a) ≡ 1
column_width down a h = ap length (column_row down a h)

-- ---- the row of a product

some_row : (kernel : List (List ℤ)) → IsKernel kernel → 0 < length kernel
some_row [] is = absurd (let e = is.height.0 in omega (arith, e))
some_row (row ∷ kernel) is = omega arith

width_along : (kernel : List (List ℤ)) (down along : List ℤ) → IsSeparable kernel down along → 0 < length down
    → length (factors kernel 0) ≡ length along
width_along kernel down along of some = (of.rows 0 some).width

row_is_kernel : (kernel : List (List ℤ)) (down along : List ℤ) → IsSeparable kernel down along → IsKernel kernel → IsKernel (along ∷ [])
row_is_kernel kernel down along of is =
    record {
      height = (refl, omega arith);
      width = subst IsKernelSide (width_along kernel down along of (subst (λ (n : ℕ). 0 < n) of.height (some_row kernel is))) is.width;
      one_width = All-cons (λ row. length row ≡ length along) along [] refl (All-nil (λ row. length row ≡ length along));
    }

-- ---- a kernel in two steps

module _ (job : Pipeline) (source v divisor : ℕ) (kernel : List (List ℤ)) (down along : List ℤ) (of : IsSeparable kernel down along)
    (known : IsFormulaOf job v (column_formula source down)) (whole : IsWhole job v (column_formula source down)) where
  abbrev P : ℕ → ℤ → ℤ → Type 0
  P = IsReadable job.stages

  abbrev middle : ℤ → ℕ → ℤ
  middle c b = under c (length along) b

  -- all that lies under the kernel has a value
  abbrev Under : ℤ → ℤ → Type 0
  Under r c = (a b : ℕ) → a < length down → b < length along → P source (under r (length down) a) (middle c b)

  taken : (r c : ℤ) → EachRead P (stencil source divisor kernel) r c → Under r c
  taken r c each a b below beside =
      subst (λ (n : ℕ). P source (under r n a) (middle c b)) of.height
      (subst (λ (n : ℕ). P source (under r (length kernel) a) (under c n b)) (width_along kernel down along of (omega (arith, below)))
      (All-head (λ x. EachTaken P x r c) (window source kernel) [] each a b (subst (λ (n : ℕ). a < n) (sym of.height) below)
      (subst (λ (n : ℕ). b < n) (sym ((of.rows a below).width)) beside)))

  -- and so has all under one of its columns
  column_point : (r c : ℤ) → Under r c → (b : ℕ) → b < length along → (a k : ℕ) → a < length down
      → k < length (factors (column_kernel down) a)
      → P source (kernel_row (column_kernel down) r a) (kernel_column (column_kernel down) (middle c b) k)
  column_point r c all b beside a k below only =
      subst (λ (n : ℕ). P source (under r n a) (kernel_column (column_kernel down) (middle c b) k)) (sym (column_height down))
      (subst (λ (n : ℕ). P source (under r (length down) a) (under (middle c b) n k)) (sym (column_width down 0 (omega (arith, below))))
      (subst (λ (n : ℕ). P source (under r (length down) a) (under (middle c b) 1 n))
      (sym (only_below k (subst (λ (n : ℕ). k < n) (column_width down a below) only)))
      (subst (P source (under r (length down) a)) (sym (only_place (middle c b))) (all a b below beside))))

  down_taken : (r c : ℤ) → Under r c → (b : ℕ) → b < length along → EachRead P (column_formula source down) r (middle c b)
  down_taken r c all b beside =
      All-cons (λ x. EachTaken P x r (middle c b)) (window source (column_kernel down)) []
      (λ a k below only. column_point r c all b beside a k (subst (λ (n : ℕ). a < n) (column_height down) below) only)
      (All-nil (λ x. EachTaken P x r (middle c b)))

  -- so the stage has a value at each place of the row
  along_taken : (r c : ℤ) → Under r c → EachRead P (stencil v divisor (along ∷ [])) r c
  along_taken r c all =
      All-cons (λ x. EachTaken P x r c) (window v (along ∷ [])) [] (λ a b first beside.
      subst (λ (n : ℕ). P v (under r 1 n) (middle c b)) (sym (only_below a first))
      (subst (λ (q : ℤ). P v q (middle c b)) (sym (only_place r))
      (whole r (middle c b) (down_taken r c all b (subst (λ (n : ℕ). b < length (factors (along ∷ []) n)) (only_below a first) beside)))))
      (All-nil (λ x. EachTaken P x r c))

  -- ---- values

  abbrev env : Valuation
  env = value job

  abbrev x : ℤ → ℤ → ℕ → ℕ → ℤ
  x r c a b = env source (kernel_row kernel r a) (kernel_column kernel c b)

  column_term : (r c : ℤ) (b a : ℕ) → a < length down
      → sum_below (length (factors (column_kernel down) a)) (λ k. at (factors (column_kernel down) a) k
      *ℤ env source (kernel_row (column_kernel down) r a) (kernel_column (column_kernel down) (middle c b) k))
      ≡ at down a *ℤ x r c a b
  column_term r c b a below =
      ap (λ (row : List ℤ). sum_below (length row) (λ k. at row k
      *ℤ env source (kernel_row (column_kernel down) r a) (kernel_column (column_kernel down) (middle c b) k))) (column_row down a below)
      ∙ one_term (λ k. at (at down a ∷ []) k *ℤ env source (kernel_row (column_kernel down) r a) (kernel_column (column_kernel down) (middle c b) k))
      ∙ (λ i. at down a *ℤ env source (under r ((column_height down ∙ sym of.height) i) a)
      (under (middle c b) (column_width down 0 (omega (arith, below)) i) 0))
      ∙ ap (λ (q : ℤ). at down a *ℤ env source (kernel_row kernel r a) q) (only_place (middle c b))
      ∙ (λ i. at down a *ℤ env source (kernel_row kernel r a) (under c (sym (width_along kernel down along of (omega (arith, below))) i) b))

  column_sum : (r c : ℤ) (b : ℕ) → weighted_sum (column_kernel down) (env source) r (middle c b)
      ≡ sum_below (length down) (λ a. at down a *ℤ x r c a b)
  column_sum r c b =
      ap (λ (n : ℕ). sum_below n (λ a. sum_below (length (factors (column_kernel down) a)) (λ k. at (factors (column_kernel down) a) k
      *ℤ env source (kernel_row (column_kernel down) r a) (kernel_column (column_kernel down) (middle c b) k)))) (column_height down)
      ∙ sum_below-agrees (length down) _ _ (column_term r c b)

  column_value : (r c : ℤ) → Under r c → (b : ℕ) → b < length along
      → env v r (middle c b) ≡ wrapped (sum_below (length down) (λ a. at down a *ℤ x r c a b))
  column_value r c all b beside =
      sym (known.value r (middle c b) (whole r (middle c b) (down_taken r c all b beside)))
      ∙ sym (divided_by_one (wrapped (weighted_sum (column_kernel down) (env source) r (middle c b))))
      ∙ ap wrapped (column_sum r c b)

  row_sum : (r c : ℤ) → weighted_sum (along ∷ []) (env v) r c ≡ sum_below (length along) (λ b. at along b *ℤ env v r (middle c b))
  row_sum r c =
      one_term (λ a. sum_below (length (factors (along ∷ []) a)) (λ b. at (factors (along ∷ []) a) b *ℤ env v (under r 1 a) (middle c b)))
      ∙ ap (λ (q : ℤ). sum_below (length along) (λ b. at along b *ℤ env v q (middle c b))) (only_place r)

  same_value : (r c : ℤ) → EachRead P (stencil source divisor kernel) r c
      → formula_value env (stencil v divisor (along ∷ [])) r c ≡ formula_value env (stencil source divisor kernel) r c
  same_value r c each =
      ap (λ (z : ℤ). floor_div z (pos divisor))
      (ap wrapped (row_sum r c)
      ∙ down_then_along kernel down along (x r c) of (λ b. env v r (middle c b)) (column_value r c (taken r c each)))

  pub in_two_steps : StandsIn job (stencil source divisor kernel) (stencil v divisor (along ∷ []))
  in_two_steps =
      record {
        formula = λ formed. (formed.0, row_is_kernel kernel down along of formed.1);
        reads = λ r c each. along_taken r c (taken r c each);
        value = λ r c formed row column each. same_value r c each;
      }

-- ---- a column of factors is a kernel

one_of_each : (down : List ℤ) → All (λ row. length row ≡ 1) (column_kernel down)
one_of_each [] = All-nil (λ row. length row ≡ 1)
one_of_each (m ∷ down) = All-cons (λ row. length row ≡ 1) (m ∷ []) (column_kernel down) refl (one_of_each down)

some_factor : (down : List ℤ) → IsKernelSide (length down) → 0 < length down
some_factor [] side = absurd (let e = side.0 in omega (arith, e))
some_factor (m ∷ down) side = omega arith

pub one_divides : IsDivisor 1
one_divides = (omega arith, omega arith)

pub column_is_kernel : (down : List ℤ) → IsKernelSide (length down) → IsKernel (column_kernel down)
column_is_kernel down side =
    let one : length (factors (column_kernel down) 0) ≡ 1 = column_width down 0 (some_factor down side) in
    record {
      height = subst IsKernelSide (sym (column_height down)) side;
      width = subst IsKernelSide (sym one) (refl, omega arith);
      one_width = subst (λ (n : ℕ). All (λ row. length row ≡ n) (column_kernel down)) (sym one) (one_of_each down);
    }
