-- Laws of medians of three.
use Rattle.std.proofs.Common.{arith, ℤ, ◌≡◌, inr, List, ◌++◌, ap, refl, sym, subst}
use Rattle.std.specs.Prelude.{All}
use Rattle.std.specs.Int.{int_min, int_max}
use Rattle.std.proofs.lemmas.Int.{ints, clamps}
use Rattle.std.proofs.lemmas.List.Elements.{All-append}
use Rattle.operators.specs.declared.operator.BinaryOp.TheVariants.{Min, Max}
use Rattle.job.specs.Formula.{Formula, binary}
use Rattle.job.specs.Reads.{Read, reads_in}
use Rattle.job.specs.Values.{formula_value}
use Rattle.job.proofs.Agreeing.{All-left, All-right}
use Rattle.normal_formulas.specs.Rewrites.{Rewrites}
use Rattle.normal_formulas.specs.NormalMedians.{AreLesserAndGreater, median}
use Rattle.normal_formulas.proofs.Standing.{Stands, rewrites}
use Rattle.normal_formulas.proofs.Rewriting.{from_same, steps, same, binary_parts}
use Rattle.normal_formulas.proofs.Laws.{by_value, operands_exchanged}

same_median : (x p q : ℤ) → int_max (int_min p q) (int_min (int_max p q) x) ≡ int_min (int_max (int_min p q) x) (int_max p q)
same_median x p q = omega (arith, ints, clamps)

module _ (Q : Read → Type 0) (xs ys zs : List Read) where
  -- the last of three before the second
  forth : All Q (xs ++ ys ++ zs) → All Q (xs ++ (zs ++ ys))
  forth each =
      let front : All Q (xs ++ ys) = All-left Q (xs ++ ys) zs each in
      All-append Q xs (zs ++ ys) (All-left Q xs ys front) (All-append Q zs ys (All-right Q (xs ++ ys) zs each) (All-right Q xs ys front))

  back : All Q (xs ++ (zs ++ ys)) → All Q (xs ++ ys ++ zs)
  back each =
      let others : All Q (zs ++ ys) = All-right Q xs (zs ++ ys) each in
      All-append Q (xs ++ ys) zs (All-append Q xs ys (All-left Q xs (zs ++ ys) each) (All-right Q zs ys others)) (All-left Q zs ys others)

module _ (p q x : Formula) where
  abbrev low : Formula
  low = binary Min p q

  abbrev high : Formula
  high = binary Max p q

  found : Stands (binary Min (binary Max low x) high) (median low high x)
  found =
      by_value (binary Min (binary Max low x) high) (median low high x) (λ is. (is.0.0, (is.1, is.0.1)))
      (λ env r c. same_median (formula_value env x r c) (formula_value env p r c) (formula_value env q r c))
      (λ Q. forth Q (reads_in low) (reads_in x) (reads_in high)) (λ Q. back Q (reads_in low) (reads_in x) (reads_in high))

pub lesser_first : (f l g x : Formula) → f ≡ binary Max l x → AreLesserAndGreater l g → Rewrites (binary Min f g) (median l g x)
lesser_first f l g x e are =
    from_same (binary Min f g) (binary Min (binary Max l x) g) (median l g x) (ap (λ (y : Formula). binary Min y g) e)
    (subst (λ (y : Formula). Rewrites (binary Min (binary Max y x) g) (median y g x)) (sym are.lesser)
    (subst (λ (y : Formula). Rewrites (binary Min (binary Max (binary Min are.first are.second) x) y) (median (binary Min are.first are.second) y x))
    (sym are.greater)
    (rewrites (binary Min (binary Max (binary Min are.first are.second) x) (binary Max are.first are.second))
    (median (binary Min are.first are.second) (binary Max are.first are.second) x) (found are.first are.second x))))

pub lesser_second : (f l g x : Formula) → f ≡ binary Max x l → AreLesserAndGreater l g → Rewrites (binary Min f g) (median l g x)
lesser_second f l g x e are =
    steps (binary Min f g) (binary Min (binary Max l x) g) (median l g x)
    (from_same (binary Min f g) (binary Min (binary Max x l) g) (binary Min (binary Max l x) g) (ap (λ (y : Formula). binary Min y g) e)
    (binary_parts Min (binary Max x l) (binary Max l x) g g (operands_exchanged Max x l (inr refl)) (same g g refl)))
    (lesser_first (binary Max l x) l g x refl are)
