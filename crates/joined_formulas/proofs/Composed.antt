-- Indices of indices, and formulas at them.
use Rattle.std.proofs.Common.{arith, ℕ, ℤ, pos, ◌≡◌, ◌+ℤ◌, ◌*ℤ◌, ◌<ℤ◌, [], ap, refl, sym, subst, ◌∙◌}
use Rattle.std.specs.Prelude.{Option, Some, None, IfSome}
use Rattle.std.proofs.lemmas.Int.{ints}
use Rattle.std.proofs.lemmas.List.Elements.{All-nil, All-cons, All-head}
use Rattle.domains.specs.Arithmetic.{floor_div, floor_rem}
use Rattle.domains.specs.Index.{Scale, IsIndex, index_at}
use Rattle.domains.proofs.Floors.{floor_only, floor_splits}
use Rattle.job.specs.Formula.{Formula, number, read}
use Rattle.job.specs.Reads.{point, EachRead, EachTaken}
use Rattle.job.specs.Values.{formula_value}
use Rattle.job.specs.WellFormed.{IsReadable}
use Rattle.normal_formulas.proofs.Laws.{divided_by_one}
use Rattle.normal_formulas.proofs.Products.{over_sum, sum_times, one_times, three_factors}
use Rattle.joined_formulas.specs.inside.Moved.{IsAt}

pub some_then : {X : Type 0} {P Q : X → Type 0} (o : Option X) → IfSome o P → ((x : X) → P x → Q x) → IfSome o Q
some_then None p f = tt
some_then (Some x) p f = f x p

-- ---- one index after another

-- a multiple of the divisor is added to the quotient
more : (z a d : ℤ) → pos 0 <ℤ d → floor_div (z +ℤ a *ℤ d) d ≡ floor_div z d +ℤ a
more z a d above =
    let own = floor_splits z d above in
    sym (floor_only (z +ℤ a *ℤ d) d (floor_div z d +ℤ a) (floor_rem z d) above
    (record {
      split = parted z (floor_div z d *ℤ d) (a *ℤ d) (floor_rem z d) own.split ∙ ap (λ (p : ℤ). p +ℤ floor_rem z d) (sym (sum_times (floor_div z d) a d));
      least = own.least;
      below = own.below;
    })).0
  where
    parted : (u p q r : ℤ) → u ≡ p +ℤ r → u +ℤ q ≡ p +ℤ q +ℤ r
    parted u p q r e = omega (arith, ints, e)

-- an outer index without a divisor
module _ (x outer inner : Scale) (v : ℤ) where
  undivided_sum : x.mul ≡ inner.mul *ℤ outer.mul → x.add ≡ inner.mul *ℤ outer.add +ℤ inner.add
      → x.mul *ℤ v +ℤ x.add ≡ inner.mul *ℤ (outer.mul *ℤ v +ℤ outer.add) +ℤ inner.add
  undivided_sum m n =
      (λ i. m i *ℤ v +ℤ n i)
      ∙ ap (λ (z : ℤ). z +ℤ (inner.mul *ℤ outer.add +ℤ inner.add)) (three_factors inner.mul outer.mul v)
      ∙ regrouped (inner.mul *ℤ (outer.mul *ℤ v)) (inner.mul *ℤ outer.add) inner.add
      ∙ ap (λ (z : ℤ). z +ℤ inner.add) (sym (over_sum inner.mul (outer.mul *ℤ v) outer.add))
    where
      regrouped : (a b c : ℤ) → a +ℤ (b +ℤ c) ≡ a +ℤ b +ℤ c
      regrouped a b c = omega (arith, ints)

  undivided_index : outer.div ≡ pos 1 → index_at outer v ≡ outer.mul *ℤ v +ℤ outer.add
  undivided_index one = ap (floor_div (outer.mul *ℤ v +ℤ outer.add)) one ∙ sym (divided_by_one (outer.mul *ℤ v +ℤ outer.add))

  pub after_undivided : outer.div ≡ pos 1 → x.mul ≡ inner.mul *ℤ outer.mul → x.add ≡ inner.mul *ℤ outer.add +ℤ inner.add
      → x.div ≡ inner.div → index_at x v ≡ index_at inner (index_at outer v)
  after_undivided one m n d =
      (λ i. floor_div (undivided_sum m n i) (d i))
      ∙ ap (λ (z : ℤ). floor_div (inner.mul *ℤ z +ℤ inner.add) inner.div) (sym (undivided_index one))

  -- an inner index that is a step
  pub before_step : pos 0 <ℤ outer.div → inner.mul ≡ pos 1 → inner.div ≡ pos 1 → x.mul ≡ outer.mul
      → x.add ≡ outer.add +ℤ inner.add *ℤ outer.div → x.div ≡ outer.div → index_at x v ≡ index_at inner (index_at outer v)
  before_step above one undivided m n d =
      (λ i. floor_div (m i *ℤ v +ℤ n i) (d i))
      ∙ ap (λ (z : ℤ). floor_div z outer.div) (regrouped (outer.mul *ℤ v) outer.add (inner.add *ℤ outer.div))
      ∙ more (outer.mul *ℤ v +ℤ outer.add) inner.add outer.div above
      ∙ sym ((λ i. floor_div (one i *ℤ index_at outer v +ℤ inner.add) (undivided i))
      ∙ sym (divided_by_one (pos 1 *ℤ index_at outer v +ℤ inner.add))
      ∙ ap (λ (z : ℤ). z +ℤ inner.add) (one_times (index_at outer v)))
    where
      regrouped : (a b c : ℤ) → a +ℤ (b +ℤ c) ≡ a +ℤ b +ℤ c
      regrouped a b c = omega (arith, ints)

-- an index that is the number itself
pub own_index : (x : Scale) → x.mul ≡ pos 1 → x.add ≡ pos 0 → x.div ≡ pos 1 → (v : ℤ) → index_at x v ≡ v
own_index x one zero undivided v =
    (λ i. floor_div (one i *ℤ v +ℤ zero i) (undivided i)) ∙ sym (divided_by_one (pos 1 *ℤ v +ℤ pos 0))
    ∙ nothing_more (pos 1 *ℤ v) ∙ one_times v
  where
    nothing_more : (z : ℤ) → z +ℤ pos 0 ≡ z
    nothing_more z = omega (arith, ints)

-- ---- formulas

module _ (i j : Scale) where
  pub number_at : (n : ℤ) (f : Formula) → f ≡ number n → IsAt i j f (number n)
  number_at n f e =
      subst (λ (h : Formula). IsAt i j h (number n)) (sym e)
      (record {
        formula = λ rows columns is. is;
        reads = λ stages r c each. All-nil (λ z. EachTaken (IsReadable stages) z r c);
        value = λ env r c. refl;
      })

  pub read_at : (g : ℕ) (a b x y : Scale) → IsIndex x → IsIndex y → ((v : ℤ) → index_at x v ≡ index_at a (index_at i v))
      → ((v : ℤ) → index_at y v ≡ index_at b (index_at j v)) → IsAt i j (read g a b) (read g x y)
  read_at g a b x y row column at_row at_column =
      record {
        formula = λ rows columns is. (row, column);
        reads = λ stages r c each.
            All-cons (λ z. EachTaken (IsReadable stages) z r c) (point g x y) []
            (subst (λ (z : ℤ). IsReadable stages g (index_at x r) z) (sym (at_column c))
            (subst (λ (z : ℤ). IsReadable stages g z (index_at b (index_at j c))) (sym (at_row r))
            (All-head (λ z. EachTaken (IsReadable stages) z (index_at i r) (index_at j c)) (point g a b) [] each)))
            (All-nil (λ z. EachTaken (IsReadable stages) z r c));
        value = λ env r c. (λ k. env g (at_row r k) (at_column c k));
      }

  pub formula_at : ((v : ℤ) → index_at i v ≡ v) → ((v : ℤ) → index_at j v ≡ v) → (f g : Formula) → g ≡ f → IsAt i j f g
  formula_at own_row own_column f g e =
      subst (IsAt i j f) (sym e)
      (record {
        formula = λ rows columns is. is;
        reads = λ stages r c each.
            subst (λ (z : ℤ). EachRead (IsReadable stages) f r z) (own_column c)
            (subst (λ (z : ℤ). EachRead (IsReadable stages) f z (index_at j c)) (own_row r) each);
        value = λ env r c. (λ k. formula_value env f (sym (own_row r) k) (sym (own_column c) k));
      })
