-- Sums of factors times terms that stand for other formulas.
use Rattle.std.proofs.Common.{arith, ℕ, zero, suc, ℤ, ◌≡◌, ◌≤◌, pos, negsuc, neg_ℤ, ◌^◌, ◌+ℤ◌, ◌*ℤ◌, w32, to_z, of_z, FitsSigned, List, [], ◌∷◌, ◌++◌, Some, slice_get, slice_set, length, take, drop, ap, sym, refl, subst, ◌∙◌}
use Rattle.std.specs.Prelude.{All}
use Rattle.std.proofs.Math.IntN.{*ℤ_comm}
use Rattle.std.proofs.lemmas.Int.{ints, to_z-of_z, SFits-int_wrap}
use Rattle.std.proofs.lemmas.List.Elements.{All-append, All-nil}
use Rattle.std.proofs.lemmas.Option.{same_Some}
use Rattle.domains.specs.Arithmetic.{wrapped}
use Rattle.operators.specs.declared.operator.UnaryOp.TheVariants.{Neg}
use Rattle.operators.specs.declared.operator.BinaryOp.TheVariants.{Add, Sub, Mul}
use Rattle.operators.specs.declared.operator.LiteralOp.TheVariants.{Shl}
use Rattle.job.specs.Formula.{Formula, number, unary, binary, literal}
use Rattle.job.specs.Views.{formula_view}
use Rattle.job.specs.Values.{formula_value}
use Rattle.job.specs.Reads.{Read, reads_in, stage_read, EachTaken}
use Rattle.job.proofs.Agreeing.{All-left, All-right}
use Rattle.job.proofs.Fitting.{formula_fits}
use Rattle.normal_formulas.specs.Rewrites.{Fits32, Rewrites}
use Rattle.normal_formulas.specs.NormalSums.{product, term_formula, terms_over}
use Rattle.normal_formulas.specs.declared.sums.NormalTerm.{NormalTerm}
use Rattle.normal_formulas.proofs.Standing.{Stands, stands, rewrites}
use Rattle.normal_formulas.proofs.Rewriting.{as_it_is, in_steps, in_binary}
use Rattle.normal_formulas.proofs.Laws.{by_value, exchanged_lists}
use Rattle.normal_formulas.proofs.SumValues.{exchanged, number_added, merged, sum_spread, difference_spread, negation_spread, left_spread, right_spread, alone, without_number, first_of_one, first_of_minus_one, behind_one, behind_minus_one, behind_product, behind_negation, number_away, with_nothing_more}

-- ---- lists of reads in another order

module _ (Q : Read → Type 0) where
  -- the first of three behind the second
  second_first : (xs ys zs : List Read) → All Q (xs ++ (ys ++ zs)) → All Q (ys ++ (xs ++ zs))
  second_first xs ys zs each =
      let back : All Q (ys ++ zs) = All-right Q xs (ys ++ zs) each in
      All-append Q ys (xs ++ zs) (All-left Q ys zs back)
      (All-append Q xs zs (All-left Q xs (ys ++ zs) each) (All-right Q ys zs back))

  -- two together, and one behind the other in the other order
  spread : (xs ys zs : List Read) → All Q (xs ++ ys ++ zs) → All Q (ys ++ (xs ++ zs))
  spread xs ys zs each =
      let front : All Q (xs ++ ys) = All-left Q (xs ++ ys) zs each in
      All-append Q ys (xs ++ zs) (All-right Q xs ys front)
      (All-append Q xs zs (All-left Q xs ys front) (All-right Q (xs ++ ys) zs each))

  gathered : (xs ys zs : List Read) → All Q (ys ++ (xs ++ zs)) → All Q (xs ++ ys ++ zs)
  gathered xs ys zs each =
      let back : All Q (xs ++ zs) = All-right Q ys (xs ++ zs) each in
      All-append Q (xs ++ ys) zs (All-append Q xs ys (All-left Q xs zs back) (All-left Q ys (xs ++ zs) each)) (All-right Q xs zs back)

  -- one list twice
  once : (xs zs : List Read) → All Q (xs ++ (xs ++ zs)) → All Q (xs ++ zs)
  once xs zs each = All-right Q xs (xs ++ zs) each

  twice : (xs zs : List Read) → All Q (xs ++ zs) → All Q (xs ++ (xs ++ zs))
  twice xs zs each = All-append Q xs (xs ++ zs) (All-left Q xs zs each) each

  -- three in two groups
  to_left : (xs ys zs : List Read) → All Q (xs ++ (ys ++ zs)) → All Q (xs ++ ys ++ zs)
  to_left xs ys zs each =
      let back : All Q (ys ++ zs) = All-right Q xs (ys ++ zs) each in
      All-append Q (xs ++ ys) zs (All-append Q xs ys (All-left Q xs (ys ++ zs) each) (All-left Q ys zs back)) (All-right Q ys zs back)

  to_right : (xs ys zs : List Read) → All Q (xs ++ ys ++ zs) → All Q (xs ++ (ys ++ zs))
  to_right xs ys zs each =
      let front : All Q (xs ++ ys) = All-left Q (xs ++ ys) zs each in
      All-append Q xs (ys ++ zs) (All-left Q xs ys front) (All-append Q ys zs (All-right Q xs ys front) (All-right Q (xs ++ ys) zs each))

  -- nothing behind a list
  with_nothing : (xs : List Read) → All Q xs → All Q (xs ++ [])
  with_nothing xs each = All-append Q xs [] each (All-nil Q)

  without_nothing : (xs : List Read) → All Q (xs ++ []) → All Q xs
  without_nothing xs each = All-left Q xs [] each

-- ---- one term and the others

pub exchange : (x y z : Formula) → Stands (binary Add x (binary Add y z)) (binary Add y (binary Add x z))
exchange x y z =
    by_value (binary Add x (binary Add y z)) (binary Add y (binary Add x z)) (λ is. (is.1.0, (is.0, is.1.1)))
    (λ env r c. exchanged (formula_value env x r c) (formula_value env y r c) (formula_value env z r c))
    (λ Q. second_first Q (reads_in x) (reads_in y) (reads_in z)) (λ Q. second_first Q (reads_in y) (reads_in x) (reads_in z))

-- what is added to a sum may be added to what its terms are added to
pushed : (x base : Formula) (ts : List NormalTerm) → Stands (binary Add x (terms_over base ts)) (terms_over (binary Add x base) ts)
pushed x base [] = as_it_is (binary Add x base)
pushed x base (t ∷ ts) =
    in_steps (binary Add x (binary Add (term_formula t) (terms_over base ts))) (binary Add (term_formula t) (binary Add x (terms_over base ts)))
    (binary Add (term_formula t) (terms_over (binary Add x base) ts)) (exchange x (term_formula t) (terms_over base ts))
    (in_binary Add (term_formula t) (term_formula t) (binary Add x (terms_over base ts)) (terms_over (binary Add x base) ts)
    (as_it_is (term_formula t)) (pushed x base ts))

based : (x y : Formula) (ts : List NormalTerm) → Stands x y → Stands (terms_over x ts) (terms_over y ts)
based x y [] h = h
based x y (t ∷ ts) h =
    in_binary Add (term_formula t) (term_formula t) (terms_over x ts) (terms_over y ts) (as_it_is (term_formula t)) (based x y ts h)

-- ---- a number more

number_base : (f n c m : ℤ) → m ≡ wrapped (c +ℤ wrapped (f *ℤ n)) → Stands (binary Add (product f (number n)) (number c)) (number m)
number_base f n c m e =
    by_value (binary Add (product f (number n)) (number c)) (number m) (λ is. subst (FitsSigned w32) (sym e) (SFits-int_wrap w32 _))
    (λ env r col. e ∙ number_added f n c) (λ Q each. each) (λ Q each. each)

pub number_more : (f n c m : ℤ) (ts : List NormalTerm) (a : Formula) → a ≡ number n → m ≡ wrapped (c +ℤ wrapped (f *ℤ n))
    → Rewrites (binary Add (product f a) (terms_over (number c) ts)) (terms_over (number m) ts)
number_more f n c m ts a is e =
    subst (λ (x : Formula). Rewrites (binary Add (product f x) (terms_over (number c) ts)) (terms_over (number m) ts)) (sym is)
    (rewrites (binary Add (product f (number n)) (terms_over (number c) ts)) (terms_over (number m) ts)
    (in_steps (binary Add (product f (number n)) (terms_over (number c) ts)) (terms_over (binary Add (product f (number n)) (number c)) ts)
    (terms_over (number m) ts) (pushed (product f (number n)) (number c) ts)
    (based (binary Add (product f (number n)) (number c)) (number m) ts (number_base f n c m e))))

-- ---- a term more, at a place

inserted : (x base : Formula) (ts : List NormalTerm) (p : ℕ) (t : NormalTerm) → term_formula t ≡ x
    → Stands (binary Add x (terms_over base ts)) (terms_over base (take p ts ++ t ∷ drop p ts))
inserted x base ts zero t e =
    subst (λ (y : Formula). Stands (binary Add x (terms_over base ts)) (binary Add y (terms_over base ts))) (sym e)
    (as_it_is (binary Add x (terms_over base ts)))
inserted x base [] (suc p) t e =
    subst (λ (y : Formula). Stands (binary Add x base) (binary Add y base)) (sym e) (as_it_is (binary Add x base))
inserted x base (u ∷ ts) (suc p) t e =
    in_steps (binary Add x (binary Add (term_formula u) (terms_over base ts))) (binary Add (term_formula u) (binary Add x (terms_over base ts)))
    (binary Add (term_formula u) (terms_over base (take p ts ++ t ∷ drop p ts))) (exchange x (term_formula u) (terms_over base ts))
    (in_binary Add (term_formula u) (term_formula u) (binary Add x (terms_over base ts)) (terms_over base (take p ts ++ t ∷ drop p ts))
    (as_it_is (term_formula u)) (inserted x base ts p t e))

pub term_more : (f : ℤ) (a base : Formula) (ts us : List NormalTerm) (p : ℕ) (t : NormalTerm) → t.factor ≡ f → formula_view t.term ≡ a
    → us ≡ take p ts ++ t ∷ drop p ts → Rewrites (binary Add (product f a) (terms_over base ts)) (terms_over base us)
term_more f a base ts us p t factor term is =
    subst (λ (xs : List NormalTerm). Rewrites (binary Add (product f a) (terms_over base ts)) (terms_over base xs)) (sym is)
    (rewrites (binary Add (product f a) (terms_over base ts)) (terms_over base (take p ts ++ t ∷ drop p ts))
    (inserted (product f a) base ts p t (λ i. product (factor i) (term i))))

-- ---- a term that is there already

merge : (f g h : ℤ) (a s : Formula) → h ≡ wrapped (g +ℤ f)
    → Stands (binary Add (product f a) (binary Add (product g a) s)) (binary Add (product h a) s)
merge f g h a s e =
    subst (λ (k : ℤ). Stands (binary Add (product f a) (binary Add (product g a) s)) (binary Add (product k a) s)) (sym e)
    (by_value (binary Add (product f a) (binary Add (product g a) s)) (binary Add (product (wrapped (g +ℤ f)) a) s)
    (λ is. ((SFits-int_wrap w32 _, is.0.1), is.1.1))
    (λ env r c. merged f g (formula_value env a r c) (formula_value env s r c))
    (λ Q. once Q (reads_in a) (reads_in s)) (λ Q. twice Q (reads_in a) (reads_in s)))

merged_at : (f : ℤ) (a base : Formula) (ts : List NormalTerm) (p : ℕ) (u v : NormalTerm) → slice_get ts p ≡ Some u
    → formula_view u.term ≡ a → formula_view v.term ≡ a → v.factor ≡ wrapped (u.factor +ℤ f)
    → Stands (binary Add (product f a) (terms_over base ts)) (terms_over base (slice_set ts p v))
merged_at f a base [] p u v there old new e = absurd (cc)
merged_at f a base (t ∷ ts) zero u v there old new e =
    subst (λ (x : Formula). Stands (binary Add (product f a) (binary Add x (terms_over base ts))) (binary Add (term_formula v) (terms_over base ts)))
    (sym (ap term_formula (same_Some t u there) ∙ ap (product u.factor) old))
    (subst (λ (x : Formula). Stands (binary Add (product f a) (binary Add (product u.factor a) (terms_over base ts))) (binary Add x (terms_over base ts)))
    (sym (ap (product v.factor) new)) (merge f u.factor v.factor a (terms_over base ts) e))
merged_at f a base (t ∷ ts) (suc p) u v there old new e =
    in_steps (binary Add (product f a) (binary Add (term_formula t) (terms_over base ts)))
    (binary Add (term_formula t) (binary Add (product f a) (terms_over base ts)))
    (binary Add (term_formula t) (terms_over base (slice_set ts p v))) (exchange (product f a) (term_formula t) (terms_over base ts))
    (in_binary Add (term_formula t) (term_formula t) (binary Add (product f a) (terms_over base ts)) (terms_over base (slice_set ts p v))
    (as_it_is (term_formula t)) (merged_at f a base ts p u v there old new e))

pub term_merged : (f : ℤ) (a base : Formula) (ts us : List NormalTerm) (p : ℕ) (u v : NormalTerm) → slice_get ts p ≡ Some u
    → formula_view u.term ≡ a → formula_view v.term ≡ a → v.factor ≡ wrapped (u.factor +ℤ f) → us ≡ slice_set ts p v
    → Rewrites (binary Add (product f a) (terms_over base ts)) (terms_over base us)
term_merged f a base ts us p u v there old new e is =
    subst (λ (xs : List NormalTerm). Rewrites (binary Add (product f a) (terms_over base ts)) (terms_over base xs)) (sym is)
    (rewrites (binary Add (product f a) (terms_over base ts)) (terms_over base (slice_set ts p v))
    (merged_at f a base ts p u v there old new e))

-- ---- parts of what is added

-- what is added in two steps
in_two : (x y s t u : Formula) (z : Formula) → Stands z (binary Add y (binary Add x s)) → Rewrites (binary Add x s) t → Rewrites (binary Add y t) u
    → Rewrites z u
in_two x y s t u z law first second =
    rewrites z u
    (in_steps z (binary Add y (binary Add x s)) u law
    (in_steps (binary Add y (binary Add x s)) (binary Add y t) u
    (in_binary Add y y (binary Add x s) t (as_it_is y) (stands (binary Add x s) t first)) (stands (binary Add y t) u second)))

pub sum_more : (f : ℤ) (a b s t u : Formula) → Rewrites (binary Add (product f a) s) t → Rewrites (binary Add (product f b) t) u
    → Rewrites (binary Add (product f (binary Add a b)) s) u
sum_more f a b s t u =
    in_two (product f a) (product f b) s t u (binary Add (product f (binary Add a b)) s)
    (by_value (binary Add (product f (binary Add a b)) s) (binary Add (product f b) (binary Add (product f a) s))
    (λ is. ((is.0.0, is.0.1.1), ((is.0.0, is.0.1.0), is.1)))
    (λ env r c. sum_spread f (formula_value env a r c) (formula_value env b r c) (formula_value env s r c))
    (λ Q. spread Q (reads_in a) (reads_in b) (reads_in s)) (λ Q. gathered Q (reads_in a) (reads_in b) (reads_in s)))

pub difference_more : (f g : ℤ) (a b s t u : Formula) → g ≡ wrapped (neg_ℤ f) → Rewrites (binary Add (product f a) s) t
    → Rewrites (binary Add (product g b) t) u → Rewrites (binary Add (product f (binary Sub a b)) s) u
difference_more f g a b s t u e =
    subst (λ (k : ℤ). Rewrites (binary Add (product f a) s) t → Rewrites (binary Add (product k b) t) u
    → Rewrites (binary Add (product f (binary Sub a b)) s) u) (sym e)
    (in_two (product f a) (product (wrapped (neg_ℤ f)) b) s t u (binary Add (product f (binary Sub a b)) s)
    (by_value (binary Add (product f (binary Sub a b)) s) (binary Add (product (wrapped (neg_ℤ f)) b) (binary Add (product f a) s))
    (λ is. ((SFits-int_wrap w32 _, is.0.1.1), ((is.0.0, is.0.1.0), is.1)))
    (λ env r c. difference_spread f (formula_value env a r c) (formula_value env b r c) (formula_value env s r c))
    (λ Q. spread Q (reads_in a) (reads_in b) (reads_in s)) (λ Q. gathered Q (reads_in a) (reads_in b) (reads_in s))))

-- one factor for another one
in_one : (y s t z : Formula) → Stands z (binary Add y s) → Rewrites (binary Add y s) t → Rewrites z t
in_one y s t z law next = rewrites z t (in_steps z (binary Add y s) t law (stands (binary Add y s) t next))

pub negation_more : (f g : ℤ) (a s t : Formula) → g ≡ wrapped (neg_ℤ f) → Rewrites (binary Add (product g a) s) t
    → Rewrites (binary Add (product f (unary Neg a)) s) t
negation_more f g a s t e =
    subst (λ (k : ℤ). Rewrites (binary Add (product k a) s) t → Rewrites (binary Add (product f (unary Neg a)) s) t) (sym e)
    (in_one (product (wrapped (neg_ℤ f)) a) s t (binary Add (product f (unary Neg a)) s)
    (by_value (binary Add (product f (unary Neg a)) s) (binary Add (product (wrapped (neg_ℤ f)) a) s)
    (λ is. ((SFits-int_wrap w32 _, is.0.1), is.1))
    (λ env r c. negation_spread f (formula_value env a r c) (formula_value env s r c)) (λ Q each. each) (λ Q each. each)))

left_number : (f n : ℤ) (a b s : Formula) → Stands b (number n)
    → Stands (binary Add (product f (binary Mul b a)) s) (binary Add (product f (binary Mul (number n) a)) s)
left_number f n a b s is =
    in_binary Add (product f (binary Mul b a)) (product f (binary Mul (number n) a)) s s
    (in_binary Mul (number f) (number f) (binary Mul b a) (binary Mul (number n) a) (as_it_is (number f))
    (in_binary Mul b (number n) a a is (as_it_is a)))
    (as_it_is s)

pub left_product_more : (f g n : ℤ) (a b s t : Formula) → Rewrites b (number n) → g ≡ wrapped (f *ℤ n)
    → Rewrites (binary Add (product g a) s) t → Rewrites (binary Add (product f (binary Mul b a)) s) t
left_product_more f g n a b s t is e next =
    in_one (product (wrapped (f *ℤ n)) a) s t (binary Add (product f (binary Mul b a)) s)
    (in_steps (binary Add (product f (binary Mul b a)) s) (binary Add (product f (binary Mul (number n) a)) s)
    (binary Add (product (wrapped (f *ℤ n)) a) s) (left_number f n a b s (stands b (number n) is))
    (by_value (binary Add (product f (binary Mul (number n) a)) s) (binary Add (product (wrapped (f *ℤ n)) a) s)
    (λ i. ((SFits-int_wrap w32 _, i.0.1.1), i.1))
    (λ env r c. left_spread f n (formula_value env a r c) (formula_value env s r c)) (λ Q each. each) (λ Q each. each)))
    (subst (λ (k : ℤ). Rewrites (binary Add (product k a) s) t) e next)

exchanged_product : (f : ℤ) (a b s : Formula)
    → Stands (binary Add (product f (binary Mul a b)) s) (binary Add (product f (binary Mul b a)) s)
exchanged_product f a b s =
    in_binary Add (product f (binary Mul a b)) (product f (binary Mul b a)) s s
    (in_binary Mul (number f) (number f) (binary Mul a b) (binary Mul b a) (as_it_is (number f))
    (by_value (binary Mul a b) (binary Mul b a) (λ is. (is.1, is.0))
    (λ env r c. ap wrapped (*ℤ_comm (formula_value env b r c) (formula_value env a r c)))
    (λ Q. exchanged_lists Q (reads_in a) (reads_in b)) (λ Q. exchanged_lists Q (reads_in b) (reads_in a))))
    (as_it_is s)

pub right_product_more : (f g n : ℤ) (a b s t : Formula) → Rewrites b (number n) → g ≡ wrapped (f *ℤ n)
    → Rewrites (binary Add (product g a) s) t → Rewrites (binary Add (product f (binary Mul a b)) s) t
right_product_more f g n a b s t is e next =
    rewrites (binary Add (product f (binary Mul a b)) s) t
    (in_steps (binary Add (product f (binary Mul a b)) s) (binary Add (product f (binary Mul b a)) s) t (exchanged_product f a b s)
    (stands (binary Add (product f (binary Mul b a)) s) t (left_product_more f g n a b s t is e next)))

-- a number with the other sign
pub negated_number : (m n : ℤ) → n ≡ wrapped (neg_ℤ m) → Rewrites (unary Neg (number m)) (number n)
negated_number m n e =
    rewrites (unary Neg (number m)) (number n)
    (by_value (unary Neg (number m)) (number n) (λ is. subst (FitsSigned w32) (sym e) (SFits-int_wrap w32 _))
    (λ env r c. e) (λ Q each. each) (λ Q each. each))

pub shift_more : (f g : ℤ) (n : ℕ) (a s t : Formula) → g ≡ wrapped (f *ℤ pos (2 ^ n)) → Rewrites (binary Add (product g a) s) t
    → Rewrites (binary Add (product f (literal Shl a n)) s) t
shift_more f g n a s t e next =
    in_one (product (wrapped (f *ℤ pos (2 ^ n))) a) s t (binary Add (product f (literal Shl a n)) s)
    (by_value (binary Add (product f (literal Shl a n)) s) (binary Add (product (wrapped (f *ℤ pos (2 ^ n))) a) s)
    (λ i. ((SFits-int_wrap w32 _, i.0.1.1), i.1))
    (λ env r c. right_spread f (pos (2 ^ n)) (formula_value env a r c) (formula_value env s r c)) (λ Q each. each) (λ Q each. each))
    (subst (λ (k : ℤ). Rewrites (binary Add (product k a) s) t) e next)

-- ---- the first step and the last

start : (f : Formula) → Stands f (binary Add (product (pos 1) f) (number (pos 0)))
start f =
    record {
      formula = λ is. ((omega (arith, ints), is), omega (arith, ints));
      value = λ env r c is rows columns fit. alone (formula_value env f r c) (formula_fits env r c rows columns f is fit);
      reads = λ P r c. with_nothing (λ x. EachTaken P x r c) (reads_in f);
      stages = λ P is. with_nothing (λ x. P (stage_read x)) (reads_in f);
      back = λ P is. without_nothing (λ x. P (stage_read x)) (reads_in f);
    }

pub sum_of_formula : (f g h : Formula) → Rewrites (binary Add (product (pos 1) f) (number (pos 0))) g → Rewrites g h → Rewrites f h
sum_of_formula f g h x y =
    rewrites f h
    (in_steps f (binary Add (product (pos 1) f) (number (pos 0))) h (start f)
    (in_steps (binary Add (product (pos 1) f) (number (pos 0))) g h (stands (binary Add (product (pos 1) f) (number (pos 0))) g x)
    (stands g h y)))

pub nothing_added : (a : Formula) (c : ℤ) → c ≡ pos 0 → Rewrites (binary Add a (number c)) a
nothing_added a c e =
    rewrites (binary Add a (number c)) a
    (record {
      formula = λ is. is.0;
      value = λ env r col is rows columns fit.
          sym (without_number (formula_value env a r col) c e
          (formula_fits env r col rows columns a is.0 (without_nothing (λ x. EachTaken (Fits32 env) x r col) (reads_in a) fit)));
      reads = λ P r col. without_nothing (λ x. EachTaken P x r col) (reads_in a);
      stages = λ P is. without_nothing (λ x. P (stage_read x)) (reads_in a);
      back = λ P is. with_nothing (λ x. P (stage_read x)) (reads_in a);
    })

-- ---- the terms in turn

-- the first term
pub one_first : (f : ℤ) (a s : Formula) → f ≡ pos 1 → Rewrites (binary Add (product f a) s) (binary Add a s)
one_first f a s e =
    rewrites (binary Add (product f a) s) (binary Add a s)
    (by_value (binary Add (product f a) s) (binary Add a s) (λ is. (is.0.1, is.1))
    (λ env r c. first_of_one f (formula_value env a r c) (formula_value env s r c) e) (λ Q each. each) (λ Q each. each))

pub minus_one_first : (f : ℤ) (a s : Formula) → f ≡ negsuc 0 → Rewrites (binary Add (product f a) s) (binary Add (unary Neg a) s)
minus_one_first f a s e =
    rewrites (binary Add (product f a) s) (binary Add (unary Neg a) s)
    (by_value (binary Add (product f a) s) (binary Add (unary Neg a) s) (λ is. (is.0.1, is.1))
    (λ env r c. first_of_minus_one f (formula_value env a r c) (formula_value env s r c) e) (λ Q each. each) (λ Q each. each))

-- the next one
pub one_next : (f : ℤ) (x a s : Formula) → f ≡ pos 1 → Rewrites (binary Add x (binary Add (product f a) s)) (binary Add (binary Add x a) s)
one_next f x a s e =
    rewrites (binary Add x (binary Add (product f a) s)) (binary Add (binary Add x a) s)
    (by_value (binary Add x (binary Add (product f a) s)) (binary Add (binary Add x a) s) (λ is. ((is.0, is.1.0.1), is.1.1))
    (λ env r c. behind_one (formula_value env x r c) f (formula_value env a r c) (formula_value env s r c) e)
    (λ Q. to_left Q (reads_in x) (reads_in a) (reads_in s)) (λ Q. to_right Q (reads_in x) (reads_in a) (reads_in s)))

pub minus_one_next : (f : ℤ) (x a s : Formula) → f ≡ negsuc 0
    → Rewrites (binary Add x (binary Add (product f a) s)) (binary Add (binary Sub x a) s)
minus_one_next f x a s e =
    rewrites (binary Add x (binary Add (product f a) s)) (binary Add (binary Sub x a) s)
    (by_value (binary Add x (binary Add (product f a) s)) (binary Add (binary Sub x a) s) (λ is. ((is.0, is.1.0.1), is.1.1))
    (λ env r c. behind_minus_one (formula_value env x r c) f (formula_value env a r c) (formula_value env s r c) e)
    (λ Q. to_left Q (reads_in x) (reads_in a) (reads_in s)) (λ Q. to_right Q (reads_in x) (reads_in a) (reads_in s)))

pub product_next : (f : ℤ) (x a s : Formula)
    → Rewrites (binary Add x (binary Add (product f a) s)) (binary Add (binary Add x (product f a)) s)
product_next f x a s =
    rewrites (binary Add x (binary Add (product f a) s)) (binary Add (binary Add x (product f a)) s)
    (by_value (binary Add x (binary Add (product f a) s)) (binary Add (binary Add x (product f a)) s) (λ is. ((is.0, is.1.0), is.1.1))
    (λ env r c. behind_product (formula_value env x r c) f (formula_value env a r c) (formula_value env s r c))
    (λ Q. to_left Q (reads_in x) (reads_in a) (reads_in s)) (λ Q. to_right Q (reads_in x) (reads_in a) (reads_in s)))

pub negation_next : (f g : ℤ) (x a s : Formula) → g ≡ wrapped (neg_ℤ f)
    → Rewrites (binary Add x (binary Add (product f a) s)) (binary Add (binary Sub x (product g a)) s)
negation_next f g x a s e =
    subst (λ (k : ℤ). Rewrites (binary Add x (binary Add (product f a) s)) (binary Add (binary Sub x (product k a)) s)) (sym e)
    (rewrites (binary Add x (binary Add (product f a) s)) (binary Add (binary Sub x (product (wrapped (neg_ℤ f)) a)) s)
    (by_value (binary Add x (binary Add (product f a) s)) (binary Add (binary Sub x (product (wrapped (neg_ℤ f)) a)) s)
    (λ is. ((is.0, (SFits-int_wrap w32 _, is.1.0.1)), is.1.1))
    (λ env r c. behind_negation (formula_value env x r c) f (formula_value env a r c) (formula_value env s r c))
    (λ Q. to_left Q (reads_in x) (reads_in a) (reads_in s)) (λ Q. to_right Q (reads_in x) (reads_in a) (reads_in s))))

-- another formula for the one that is added
pub part_more : (f : ℤ) (a b s t : Formula) → Rewrites a b → Rewrites (binary Add (product f b) s) t → Rewrites (binary Add (product f a) s) t
part_more f a b s t x next =
    in_one (product f b) s t (binary Add (product f a) s)
    (in_binary Add (product f a) (product f b) s s (in_binary Mul (number f) (number f) a b (as_it_is (number f)) (stands a b x)) (as_it_is s))
    next

pub drop_past : (ts : List NormalTerm) (n : ℕ) → length ts ≤ n → drop n ts ≡ []
drop_past [] zero h = refl
drop_past [] (suc n) h = refl
drop_past (t ∷ ts) zero h = absurd (omega (arith, h))
drop_past (t ∷ ts) (suc n) h = drop_past ts n (omega (arith, h))

-- a factor that a call takes
pub taken_factor : (f : ℤ) (a s t : Formula) → FitsSigned w32 f → Rewrites (binary Add (product (to_z w32 (of_z w32 f)) a) s) t
    → Rewrites (binary Add (product f a) s) t
taken_factor f a s t fits x = subst (λ (z : ℤ). Rewrites (binary Add (product z a) s) t) (to_z-of_z w32 f fits) x

-- a number that is taken away
pub number_taken : (a : Formula) (c d : ℤ) → d ≡ wrapped (neg_ℤ c) → Rewrites (binary Add a (number c)) (binary Sub a (number d))
number_taken a c d e =
    subst (λ (z : ℤ). Rewrites (binary Add a (number c)) (binary Sub a (number z))) (sym e)
    (rewrites (binary Add a (number c)) (binary Sub a (number (wrapped (neg_ℤ c))))
    (by_value (binary Add a (number c)) (binary Sub a (number (wrapped (neg_ℤ c)))) (λ is. (is.0, SFits-int_wrap w32 _))
    (λ env r col. number_away (formula_value env a r col) c) (λ Q each. each) (λ Q each. each)))

-- the number first
alone_first : (c : ℤ) → Stands (number c) (binary Add (number c) (number (pos 0)))
alone_first c =
    record {
      formula = λ is. (is, omega (arith, ints));
      value = λ env r col is rows columns fit. with_nothing_more c is;
      reads = λ P r col each. each;
      stages = λ P is each. each;
      back = λ P is each. each;
    }

first_of : (c : ℤ) (ts : List NormalTerm) → Stands (terms_over (number c) ts) (binary Add (number c) (terms_over (number (pos 0)) ts))
first_of c [] = alone_first c
first_of c (t ∷ ts) =
    in_steps (binary Add (term_formula t) (terms_over (number c) ts))
    (binary Add (term_formula t) (binary Add (number c) (terms_over (number (pos 0)) ts)))
    (binary Add (number c) (binary Add (term_formula t) (terms_over (number (pos 0)) ts)))
    (in_binary Add (term_formula t) (term_formula t) (terms_over (number c) ts) (binary Add (number c) (terms_over (number (pos 0)) ts))
    (as_it_is (term_formula t)) (first_of c ts))
    (exchange (term_formula t) (number c) (terms_over (number (pos 0)) ts))

pub number_first : (c : ℤ) (ts : List NormalTerm) → Rewrites (terms_over (number c) ts) (binary Add (number c) (terms_over (number (pos 0)) ts))
number_first c ts = rewrites (terms_over (number c) ts) (binary Add (number c) (terms_over (number (pos 0)) ts)) (first_of c ts)
