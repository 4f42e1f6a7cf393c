-- Laws of quotients, least and greatest numbers, and clamps.
use Rattle.std.proofs.Common.{arith, ℕ, ℤ, pos, ◌≡◌, ◌≤◌, ◌⊎◌, inl, inr, ◌^◌, ◌+ℤ◌, ◌*ℤ◌, ◌≤ℤ◌, List, ◌++◌, ap, refl, sym, subst, ◌∙◌}
use Rattle.std.specs.Prelude.{All}
use Rattle.std.specs.Int.{int_min, int_max}
use Rattle.std.proofs.Math.IntN.{*ℤ_comm}
use Rattle.std.proofs.lemmas.Int.{ints, clamps}
use Rattle.std.proofs.lemmas.List.Elements.{All-append}
use Rattle.domains.specs.Arithmetic.{floor_div, clamped}
use Rattle.domains.proofs.Floors.{floor_only}
use Rattle.operators.specs.declared.operator.BinaryOp.{BinaryOp}
use Rattle.operators.specs.declared.operator.BinaryOp.TheVariants.{Min, Max}
use Rattle.operators.specs.declared.operator.TernaryOp.TheVariants.{Clamp}
use Rattle.operators.specs.declared.operator.LiteralOp.TheVariants.{Div, Shr}
use Rattle.job.specs.Formula.{Formula, number, binary, ternary, literal}
use Rattle.job.specs.Values.{Valuation, formula_value}
use Rattle.job.specs.Reads.{Read, reads_in, stage_read, EachTaken}
use Rattle.job.specs.WellFormed.{IsFormula}
use Rattle.job.proofs.Agreeing.{All-left, All-right}
use Rattle.normal_formulas.specs.Rewrites.{Rewrites}
use Rattle.normal_formulas.proofs.Products.{one_times}
use Rattle.normal_formulas.proofs.Standing.{Stands, rewrites}
use Rattle.normal_formulas.proofs.Rewriting.{from_same}

-- the same reads in another order, and the same value
pub by_value : (f g : Formula) → (IsFormula f → IsFormula g)
    → ((env : Valuation) (r c : ℤ) → formula_value env g r c ≡ formula_value env f r c)
    → ((Q : Read → Type 0) → All Q (reads_in f) → All Q (reads_in g))
    → ((Q : Read → Type 0) → All Q (reads_in g) → All Q (reads_in f)) → Stands f g
by_value f g is one_value there back =
    record {
      formula = is;
      value = λ env r c i rows columns fit. one_value env r c;
      reads = λ P r c. there (λ x. EachTaken P x r c);
      stages = λ P i. there (λ x. P (stage_read x));
      back = λ P i. back (λ x. P (stage_read x));
    }

-- ---- quotients

pub divided_by_one : (v : ℤ) → v ≡ floor_div v (pos 1)
divided_by_one v =
    (floor_only v (pos 1) v (pos 0) (omega (arith, ints)) (record { split = whole v; least = omega (arith, ints); below = omega (arith, ints) })).0
  where
    nothing_more : (z : ℤ) → z +ℤ pos 0 ≡ z
    nothing_more z = omega (arith, ints)

    whole : (z : ℤ) → z ≡ z *ℤ pos 1 +ℤ pos 0
    whole z = sym (nothing_more (z *ℤ pos 1) ∙ *ℤ_comm z (pos 1) ∙ one_times z)

pub quotient_by_one : (a : Formula) (n bits : ℕ) → bits ≡ 0 → n ≡ 2 ^ bits → Rewrites (literal Div a n) a
quotient_by_one a n bits zero_bits power =
    rewrites (literal Div a n) a
    (by_value (literal Div a n) a (λ is. is.1)
    (λ env r c. divided_by_one (formula_value env a r c) ∙ ap (λ (m : ℕ). floor_div (formula_value env a r c) (pos m)) (sym one))
    (λ Q each. each) (λ Q each. each))
  where
    one : n ≡ 1
    one = power ∙ ap (λ (m : ℕ). 2 ^ m) zero_bits

pub quotient_by_power : (a : Formula) (n bits : ℕ) → n ≡ 2 ^ bits → bits ≤ 31 → Rewrites (literal Div a n) (literal Shr a bits)
quotient_by_power a n bits power few =
    rewrites (literal Div a n) (literal Shr a bits)
    (by_value (literal Div a n) (literal Shr a bits) (λ is. (few, is.1))
    (λ env r c. ap (λ (m : ℕ). floor_div (formula_value env a r c) (pos m)) (sym power))
    (λ Q each. each) (λ Q each. each))

-- ---- least and greatest numbers

other_min : (a b : ℤ) → int_min b a ≡ int_min a b
other_min a b = omega (arith, ints, clamps)

other_max : (a b : ℤ) → int_max b a ≡ int_max a b
other_max a b = omega (arith, ints, clamps)

pub exchanged_lists : (Q : Read → Type 0) (xs ys : List Read) → All Q (xs ++ ys) → All Q (ys ++ xs)
exchanged_lists Q xs ys each = All-append Q ys xs (All-right Q xs ys each) (All-left Q xs ys each)

exchanged_min : (a b : Formula) → Stands (binary Min a b) (binary Min b a)
exchanged_min a b =
    by_value (binary Min a b) (binary Min b a) (λ is. (is.1, is.0))
    (λ env r c. other_min (formula_value env a r c) (formula_value env b r c))
    (λ Q. exchanged_lists Q (reads_in a) (reads_in b)) (λ Q. exchanged_lists Q (reads_in b) (reads_in a))

exchanged_max : (a b : Formula) → Stands (binary Max a b) (binary Max b a)
exchanged_max a b =
    by_value (binary Max a b) (binary Max b a) (λ is. (is.1, is.0))
    (λ env r c. other_max (formula_value env a r c) (formula_value env b r c))
    (λ Q. exchanged_lists Q (reads_in a) (reads_in b)) (λ Q. exchanged_lists Q (reads_in b) (reads_in a))

pub operands_exchanged : (op : BinaryOp) (a b : Formula) → (op ≡ Min) ⊎ (op ≡ Max) → Rewrites (binary op a b) (binary op b a)
operands_exchanged op a b (inl least) =
    subst (λ (o : BinaryOp). Rewrites (binary o a b) (binary o b a)) (sym least)
    (rewrites (binary Min a b) (binary Min b a) (exchanged_min a b))
operands_exchanged op a b (inr greatest) =
    subst (λ (o : BinaryOp). Rewrites (binary o a b) (binary o b a)) (sym greatest)
    (rewrites (binary Max a b) (binary Max b a) (exchanged_max a b))

-- ---- clamps

-- what is clamped, where the greatest is taken first
pub clamp_of_min : (f g a : Formula) (low high : ℤ) → f ≡ binary Max a (number low) → g ≡ number high
    → Rewrites (binary Min f g) (ternary Clamp a (number low) (number high))
clamp_of_min f g a low high is bound =
    from_same (binary Min f g) (binary Min (binary Max a (number low)) (number high)) (ternary Clamp a (number low) (number high))
    (λ i. binary Min (is i) (bound i))
    (rewrites (binary Min (binary Max a (number low)) (number high)) (ternary Clamp a (number low) (number high))
    (by_value (binary Min (binary Max a (number low)) (number high)) (ternary Clamp a (number low) (number high))
    (λ is. (is.0.0, is.0.1, is.1)) (λ env r c. refl) (λ Q each. each) (λ Q each. each)))

bounded_either_way : (v low high : ℤ) → low ≤ℤ high → clamped v low high ≡ int_max (int_min v high) low
bounded_either_way v low high h = omega (arith, ints, clamps, h)

pub clamp_of_max : (f g a : Formula) (low high : ℤ) → low ≤ℤ high → f ≡ binary Min a (number high) → g ≡ number low
    → Rewrites (binary Max f g) (ternary Clamp a (number low) (number high))
clamp_of_max f g a low high h is bound =
    from_same (binary Max f g) (binary Max (binary Min a (number high)) (number low)) (ternary Clamp a (number low) (number high))
    (λ i. binary Max (is i) (bound i))
    (rewrites (binary Max (binary Min a (number high)) (number low)) (ternary Clamp a (number low) (number high))
    (by_value (binary Max (binary Min a (number high)) (number low)) (ternary Clamp a (number low) (number high))
    (λ is. (is.0.0, is.1, is.0.1)) (λ env r c. bounded_either_way (formula_value env a r c) low high h) (λ Q each. each)
    (λ Q each. each)))
