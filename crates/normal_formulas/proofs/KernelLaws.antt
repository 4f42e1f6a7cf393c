-- Kernels that stand for sums of products of numbers and reads.
use Rattle.std.proofs.Common.{arith, ℕ, zero, suc, ℤ, ◌≡◌, ◌<◌, ◌≤◌, ◌%◌, ◌^◌, ◌*◌, pos, ◌+ℤ◌, w32, List, [], ◌∷◌, ◌++◌, Some, slice_get, length, ap, sym, refl, subst, ◌∙◌}
use Rattle.std.specs.Prelude.{All, IfSome, Option, map}
use Rattle.std.specs.List.{remove}
use Rattle.std.proofs.lemmas.Int.{ints, int_wrap-add_left}
use Rattle.std.proofs.lemmas.Nat.{pow_below}
use Rattle.std.proofs.lemmas.List.Elements.{All-head, All-tail, All-cons}
use Rattle.std.proofs.lemmas.Option.{same_Some}
use Rattle.domains.specs.Arithmetic.{wrapped, floor_div}
use Rattle.domains.specs.Index.{Scale}
use Rattle.operators.specs.declared.operator.BinaryOp.TheVariants.{Add}
use Rattle.operators.specs.declared.operator.LiteralOp.TheVariants.{Div, Shr}
use Rattle.job.specs.Formula.{Formula, read, binary, literal, stencil}
use Rattle.job.specs.Views.{formula_view}
use Rattle.job.specs.Values.{Valuation, formula_value, factors, weighted_sum}
use Rattle.job.specs.Reads.{Read, window, reads_in, stage_read, EachTaken}
use Rattle.job.specs.WellFormed.{IsKernelSide, IsKernel, IsFormula}
use Rattle.normal_formulas.specs.Rewrites.{Rewrites}
use Rattle.normal_formulas.specs.NormalSums.{product, term_formula, terms_over}
use Rattle.normal_formulas.specs.NormalKernels.{shift, first_of, row_over, rows_over, HasSides}
use Rattle.normal_formulas.specs.declared.sums.NormalTerm.{NormalTerm}
use Rattle.normal_formulas.proofs.Standing.{Stands, stands, rewrites}
use Rattle.normal_formulas.proofs.Rewriting.{as_it_is, in_steps, in_binary, steps}
use Rattle.normal_formulas.proofs.Laws.{by_value, divided_by_one}
use Rattle.normal_formulas.proofs.SumLaws.{exchange}
use Rattle.normal_formulas.proofs.KernelSums.{twice, place_under, rows_value, kernel_sum}
use Rattle.normal_formulas.proofs.KernelReads.{rows_reads, reads_of_rows}

-- ---- a term that is taken out of a sum

taken_out : (base : Formula) (ts : List NormalTerm) (p : ℕ) (t : NormalTerm) → slice_get ts p ≡ Some t
    → Stands (terms_over base ts) (binary Add (term_formula t) (terms_over base (remove ts p)))
taken_out base [] p t there = absurd (cc)
taken_out base (u ∷ ts) zero t there =
    subst (λ (v : NormalTerm). Stands (binary Add (term_formula u) (terms_over base ts)) (binary Add (term_formula v) (terms_over base ts)))
    (same_Some u t there) (as_it_is (binary Add (term_formula u) (terms_over base ts)))
taken_out base (u ∷ ts) (suc p) t there =
    let rest = terms_over base (remove ts p) in
    in_steps (binary Add (term_formula u) (terms_over base ts)) (binary Add (term_formula u) (binary Add (term_formula t) rest))
    (binary Add (term_formula t) (binary Add (term_formula u) rest))
    (in_binary Add (term_formula u) (term_formula u) (terms_over base ts) (binary Add (term_formula t) rest) (as_it_is (term_formula u))
    (taken_out base ts p t there))
    (exchange (term_formula u) (term_formula t) rest)

pub read_taken : (base : Formula) (ts us : List NormalTerm) (p : ℕ) (t : NormalTerm) (f : ℤ) (a : Formula) → slice_get ts p ≡ Some t
    → formula_view t.term ≡ a → f ≡ t.factor → us ≡ remove ts p → Rewrites (terms_over base ts) (binary Add (product f a) (terms_over base us))
read_taken base ts us p t f a there is factor gone =
    rewrites (terms_over base ts) (binary Add (product f a) (terms_over base us))
    (subst (Stands (terms_over base ts)) (λ i. binary Add (product (sym factor i) (is i)) (terms_over base (sym gone i)))
    (taken_out base ts p t there))

-- ---- rows and kernels of which what they are added to is rewritten

row_based : (x y : Formula) (g : ℕ) (row : Scale) (b : ℤ) (xs : List ℤ) → Stands x y → Stands (row_over x g row b xs) (row_over y g row b xs)
row_based x y g row b [] h = h
row_based x y g row b (f ∷ fs) h =
    let term = product f (read g row (shift b)) in
    in_binary Add term term (row_over x g row (b +ℤ pos 1) fs) (row_over y g row (b +ℤ pos 1) fs) (as_it_is term)
    (row_based x y g row (b +ℤ pos 1) fs h)

rows_based : (x y : Formula) (g : ℕ) (a b : ℤ) (kernel : List (List ℤ)) → Stands x y → Stands (rows_over x g a b kernel) (rows_over y g a b kernel)
rows_based x y g a b [] h = h
rows_based x y g a b (xs ∷ kernel) h =
    row_based (rows_over x g (a +ℤ pos 1) b kernel) (rows_over y g (a +ℤ pos 1) b kernel) g (shift a) b xs
    (rows_based x y g (a +ℤ pos 1) b kernel h)

-- ---- one read more, and one row more

here : (b c : ℤ) → c ≡ b +ℤ pos 0 → c ≡ b
here b c e = omega (arith, ints, e)

next : (b c : ℤ) (n : ℕ) → c ≡ b +ℤ pos (suc n) → c ≡ b +ℤ pos 1 +ℤ pos n
next b c n e = omega (arith, ints, e)

row_more : (base : Formula) (g : ℕ) (row : Scale) (f : ℤ) (xs : List ℤ) (b c : ℤ) → c ≡ b +ℤ pos (length xs)
    → row_over (binary Add (product f (read g row (shift c))) base) g row b xs ≡ row_over base g row b (xs ++ f ∷ [])
row_more base g row f [] b c e = ap (λ (z : ℤ). binary Add (product f (read g row (shift z))) base) (here b c e)
row_more base g row f (x ∷ xs) b c e =
    ap (binary Add (product x (read g row (shift b)))) (row_more base g row f xs (b +ℤ pos 1) c (next b c (length xs) e))

pub row_step : (z x y : Formula) (g : ℕ) (row : Scale) (b c f : ℤ) (xs : List ℤ) → c ≡ b +ℤ pos (length xs)
    → Rewrites z (row_over x g row b xs) → Rewrites x (binary Add (product f (read g row (shift c))) y)
    → Rewrites z (row_over y g row b (xs ++ f ∷ []))
row_step z x y g row b c f xs e before taken =
    let one = binary Add (product f (read g row (shift c))) y in
    subst (Rewrites z) (row_more y g row f xs b c e)
    (steps z (row_over x g row b xs) (row_over one g row b xs) before
    (rewrites (row_over x g row b xs) (row_over one g row b xs) (row_based x one g row b xs (stands x one taken))))

rows_more : (base : Formula) (g : ℕ) (b : ℤ) (xs : List ℤ) (kernel : List (List ℤ)) (a c : ℤ) → c ≡ a +ℤ pos (length kernel)
    → rows_over (row_over base g (shift c) b xs) g a b kernel ≡ rows_over base g a b (kernel ++ xs ∷ [])
rows_more base g b xs [] a c e = ap (λ (z : ℤ). row_over base g (shift z) b xs) (here a c e)
rows_more base g b xs (ys ∷ kernel) a c e =
    ap (λ (x : Formula). row_over x g (shift a) b ys) (rows_more base g b xs kernel (a +ℤ pos 1) c (next a c (length kernel) e))

pub rows_step : (z x y : Formula) (g : ℕ) (a b c : ℤ) (xs : List ℤ) (kernel : List (List ℤ)) → c ≡ a +ℤ pos (length kernel)
    → Rewrites z (rows_over x g a b kernel) → Rewrites x (row_over y g (shift c) b xs) → Rewrites z (rows_over y g a b (kernel ++ xs ∷ []))
rows_step z x y g a b c xs kernel e before taken =
    let one = row_over y g (shift c) b xs in
    subst (Rewrites z) (rows_more y g b xs kernel a c e)
    (steps z (rows_over x g a b kernel) (rows_over one g a b kernel) before
    (rewrites (rows_over x g a b kernel) (rows_over one g a b kernel) (rows_based x one g a b kernel (stands x one taken))))

-- ---- the kernel for the sum

row_formula : (base : Formula) (g : ℕ) (row : Scale) (b : ℤ) (xs : List ℤ) → IsFormula (row_over base g row b xs) → IsFormula base
row_formula base g row b [] is = is
row_formula base g row b (x ∷ xs) is = row_formula base g row (b +ℤ pos 1) xs is.1

rows_formula : (base : Formula) (g : ℕ) (a b : ℤ) (kernel : List (List ℤ)) → IsFormula (rows_over base g a b kernel) → IsFormula base
rows_formula base g a b [] is = is
rows_formula base g a b (xs ∷ kernel) is =
    rows_formula base g (a +ℤ pos 1) b kernel (row_formula (rows_over base g (a +ℤ pos 1) b kernel) g (shift a) b xs is)

undivided : (w own : ℤ) → wrapped (w +ℤ own) ≡ wrapped (floor_div (wrapped w) (pos 1) +ℤ own)
undivided w own = sym (int_wrap-add_left w32 w own) ∙ ap (λ (z : ℤ). wrapped (z +ℤ own)) (divided_by_one (wrapped w))

module _ (base : Formula) (g : ℕ) (x : ℤ) (xs : List ℤ) (rows : List (List ℤ)) where
  abbrev kernel : List (List ℤ)
  kernel = (x ∷ xs) ∷ rows

  abbrev a : ℤ
  a = first_of (length kernel)

  abbrev b : ℤ
  b = first_of (length (x ∷ xs))

  abbrev gathered : Formula
  gathered = binary Add (stencil g 1 kernel) base

  value_kept : (env : Valuation) (r c : ℤ) → formula_value env gathered r c ≡ formula_value env (rows_over base g a b kernel) r c
  value_kept env r c =
      sym
      (sym (twice _) ∙ rows_value env r c g base a b kernel
      ∙ ap (λ (z : ℤ). wrapped (z +ℤ formula_value env base r c)) (kernel_sum env r c g kernel)
      ∙ undivided (weighted_sum kernel (env g) r c) (formula_value env base r c))

  window_taken : (P : ℕ → ℤ → ℤ → Type 0) (r c : ℤ) → All (λ y. EachTaken P y r c) (reads_in (rows_over base g a b kernel))
      → All (λ y. EachTaken P y r c) (reads_in gathered)
  window_taken P r c each =
      let Q : Read → Type 0 = λ y. EachTaken P y r c in
      let parts = rows_reads Q g base a b kernel each in
      All-cons Q (window g kernel) (reads_in base)
      (λ i j li lj. subst (λ (z : ℤ × ℤ). P g z.0 z.1)
      (λ t. (sym (place_under r (length kernel) i) t, sym (place_under c (length (x ∷ xs)) j) t)) (parts.0 i j li lj))
      parts.1

  kernel_gathered : IsKernel kernel → Stands (rows_over base g a b kernel) gathered
  kernel_gathered is =
      record {
        formula = λ f. ((omega arith, is), rows_formula base g a b kernel f);
        value = λ env r c f rows columns fit. value_kept env r c;
        reads = window_taken;
        stages = λ P f each.
            let Q : Read → Type 0 = λ y. P (stage_read y) in
            let parts = rows_reads Q g base a b kernel each in
            All-cons Q (window g kernel) (reads_in base) (parts.0 0 0 (omega arith) (omega arith)) parts.1;
        back = λ P f each.
            let Q : Read → Type 0 = λ y. P (stage_read y) in
            reads_of_rows Q g base a b kernel (λ i j li lj. All-head Q (window g kernel) (reads_in base) each)
            (All-tail Q (window g kernel) (reads_in base) each);
      }

-- ---- as contracts say it

no_side : 0 % 2 ≡ 1 → ⊥
no_side h = omega (arith, h)

of_sides : (base : Formula) (g : ℕ) (kernel : List (List ℤ)) → IsKernel kernel
    → Rewrites (rows_over base g (first_of (length kernel)) (first_of (length (factors kernel 0))) kernel) (binary Add (stencil g 1 kernel) base)
of_sides base g [] is = absurd (no_side is.height.0)
of_sides base g ([] ∷ rows) is = absurd (no_side is.width.0)
of_sides base g ((x ∷ xs) ∷ rows) is =
    let kernel = (x ∷ xs) ∷ rows in
    rewrites (rows_over base g (first_of (length kernel)) (first_of (length (x ∷ xs))) kernel) (binary Add (stencil g 1 kernel) base)
    (kernel_gathered base g x xs rows is)

has_kernel : (height width : ℕ) (kernel : List (List ℤ)) → IsKernelSide height → IsKernelSide width → HasSides height width kernel
    → IsKernel kernel × (length (factors kernel 0) ≡ width)
has_kernel height width [] tall wide has = absurd (no_side (subst (λ (n : ℕ). n % 2 ≡ 1) (sym has.rows) tall.0))
has_kernel height width (xs ∷ rows) tall wide has =
    let first : length xs ≡ width = All-head (λ row. length row ≡ width) xs rows has.columns in (
      record {
        height = subst IsKernelSide (sym has.rows) tall;
        width = subst IsKernelSide (sym first) wide;
        one_width = subst (λ (n : ℕ). All (λ row. length row ≡ n) (xs ∷ rows)) (sym first) has.columns;
      },
      first,
    )

pub kernel_found : (base : Formula) (g height width : ℕ) (kernel : List (List ℤ)) → IsKernelSide height → IsKernelSide width
    → HasSides height width kernel → Rewrites (rows_over base g (first_of height) (first_of width) kernel) (binary Add (stencil g 1 kernel) base)
kernel_found base g height width kernel tall wide has =
    let is = has_kernel height width kernel tall wide has in
    subst (λ (x : Formula). Rewrites x (binary Add (stencil g 1 kernel) base))
    (λ i. rows_over base g (first_of (has.rows i)) (first_of (is.1 i)) kernel) (of_sides base g kernel is.0)

-- ---- quotients of kernels

pub stencil_divided : (g n : ℕ) (kernel : List (List ℤ)) → Rewrites (literal Div (stencil g 1 kernel) n) (stencil g n kernel)
stencil_divided g n kernel =
    rewrites (literal Div (stencil g 1 kernel) n) (stencil g n kernel)
    (by_value (literal Div (stencil g 1 kernel) n) (stencil g n kernel) (λ is. (is.0, is.1.1))
    (λ env r c. ap (λ (z : ℤ). floor_div z (pos n)) (divided_by_one (wrapped (weighted_sum kernel (env g) r c)))) (λ Q each. each) (λ Q each. each))

pub stencil_shifted : (g n bits : ℕ) (kernel : List (List ℤ)) → n ≡ 2 ^ bits → bits < 31
    → Rewrites (literal Shr (stencil g 1 kernel) bits) (stencil g n kernel)
stencil_shifted g n bits kernel power few =
    subst (λ (m : ℕ). Rewrites (literal Shr (stencil g 1 kernel) bits) (stencil g m kernel)) (sym power)
    (rewrites (literal Shr (stencil g 1 kernel) bits) (stencil g (2 ^ bits) kernel)
    (by_value (literal Shr (stencil g 1 kernel) bits) (stencil g (2 ^ bits) kernel) (λ is. ((above bits, pow_below bits 31 few), is.1.1))
    (λ env r c. ap (λ (z : ℤ). floor_div z (pos (2 ^ bits))) (divided_by_one (wrapped (weighted_sum kernel (env g) r c)))) (λ Q each. each)
    (λ Q each. each)))
  where
    above : (k : ℕ) → 1 ≤ 2 ^ k
    above zero = omega arith
    above (suc k) = let h = above k in omega (arith, h)

-- a power that a shift makes, within 32 bits
pub small_power : (bits : ℕ) → bits < 31 → 1 * 2 ^ bits % 4294967296 ≡ 2 ^ bits
small_power bits few = let h = pow_below bits 31 few in omega (arith, h)

-- ---- terms that are copied, and options

abbrev joined : Formula → List Formula → Formula
joined base [] = base
joined base (x ∷ xs) = binary Add x (joined base xs)

joined_terms : (base : Formula) (ts : List NormalTerm) → joined base (map term_formula ts) ≡ terms_over base ts
joined_terms base [] = refl
joined_terms base (t ∷ ts) = ap (binary Add (term_formula t)) (joined_terms base ts)

pub terms_alike : (base : Formula) (ts us : List NormalTerm) → map term_formula ts ≡ map term_formula us → terms_over base ts ≡ terms_over base us
terms_alike base ts us e = sym (joined_terms base ts) ∙ ap (joined base) e ∙ joined_terms base us

pub of_some : {X : Type 0} (P : X → Type 0) (o : Option X) (x : X) → o ≡ Some x → IfSome o P → P x
of_some {X} P o x e h = subst (λ (y : Option X). IfSome y P) e h
