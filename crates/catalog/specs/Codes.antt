-- An encoding of formulas, by which a proof distinguishes them: the operations one after the other, each after its operands.
use Rattle.std.specs.Prelude.{ℕ, ℤ, pos, ◌≡◌, ◌⊎◌, Bool, true, false, List, [], ◌∷◌, ◌++◌}
use Rattle.std.proofs.Common.{refl, ap, ◌∙◌, inl, inr}
use Rattle.std.specs.Coded.{Coded, code_by, coded×, coded⊎, coded_ℕ, coded_ℤ, coded_bool, coded_list}
use Rattle.domains.specs.Index.{Scale}
use Rattle.operators.specs.declared.operator.UnaryOp.{UnaryOp}
use Rattle.operators.specs.declared.operator.BinaryOp.{BinaryOp}
use Rattle.operators.specs.declared.operator.TernaryOp.{TernaryOp}
use Rattle.operators.specs.declared.operator.LiteralOp.{LiteralOp}
use Rattle.operators.specs.declared.operator.Relation.{Relation}
use Rattle.tables.specs.Entries.{Entries}
use Rattle.operators.specs.contracts.operator.UnaryOp as unaries
use Rattle.operators.specs.contracts.operator.BinaryOp as binaries
use Rattle.operators.specs.contracts.operator.TernaryOp as ternaries
use Rattle.operators.specs.contracts.operator.LiteralOp as literals
use Rattle.operators.specs.contracts.operator.Relation as relations
use Rattle.job.specs.Formula.{row, column, Formula, number, coordinate, read, unary, binary, ternary, literal, lookup, select, stencil}

-- ---- leaves and operations

abbrev Numbers : Type 0
Numbers = ℤ × (ℤ × ℤ)

abbrev Leaf : Type 0
Leaf = (ℤ ⊎ Bool) ⊎ ((ℕ × (Numbers × Numbers)) ⊎ (ℕ × (ℕ × List (List ℤ))))

-- of one operand, of two, of three or of four
abbrev Operation : Type 0
Operation = (UnaryOp ⊎ ((LiteralOp × ℕ) ⊎ ((ℤ × ℤ) × List ℤ))) ⊎ (BinaryOp ⊎ (TernaryOp ⊎ Relation))

abbrev pub Step : Type 0
Step = Leaf ⊎ Operation

abbrev numbers_code : Coded Numbers
numbers_code = coded× coded_ℤ (coded× coded_ℤ coded_ℤ)

abbrev leaf_code : Coded Leaf
leaf_code =
    coded⊎ (coded⊎ coded_ℤ coded_bool)
    (coded⊎ (coded× coded_ℕ (coded× numbers_code numbers_code)) (coded× coded_ℕ (coded× coded_ℕ (coded_list (coded_list coded_ℤ)))))

abbrev operation_code : Coded Operation
operation_code =
    coded⊎
    (coded⊎ unaries.the_row.coded (coded⊎ (coded× literals.the_row.coded coded_ℕ) (coded× (coded× coded_ℤ coded_ℤ) (coded_list coded_ℤ))))
    (coded⊎ binaries.the_row.coded (coded⊎ ternaries.the_row.coded relations.the_row.coded))

abbrev pub step_code : Coded Step
step_code = coded⊎ leaf_code operation_code

-- ---- formulas as lists of them

abbrev numbers_of : Scale → Numbers
numbers_of x = (x.mul, (x.add, x.div))

abbrev scale_of : Numbers → Scale
scale_of n = record { mul = n.0; add = n.1.0; div = n.1.1 }

abbrev ends_and_values : Entries → (ℤ × ℤ) × List ℤ
ends_and_values t = ((t.span.lo, t.span.hi), t.values)

abbrev entries_of : (ℤ × ℤ) × List ℤ → Entries
entries_of n = record { span = record { lo = n.0.0; hi = n.0.1 }; values = n.1 }

abbrev pub spelled : Formula → List Step
spelled (number n) = inl (inl (inl n)) ∷ []
spelled (coordinate row) = inl (inl (inr true)) ∷ []
spelled (coordinate column) = inl (inl (inr false)) ∷ []
spelled (read g i j) = inl (inr (inl (g, (numbers_of i, numbers_of j)))) ∷ []
spelled (stencil g divisor kernel) = inl (inr (inr (g, (divisor, kernel)))) ∷ []
spelled (unary op a) = spelled a ++ inr (inl (inl op)) ∷ []
spelled (literal op a n) = spelled a ++ inr (inl (inr (inl (op, n)))) ∷ []
spelled (lookup t a) = spelled a ++ inr (inl (inr (inr (ends_and_values t)))) ∷ []
spelled (binary op a b) = spelled a ++ (spelled b ++ inr (inr (inl op)) ∷ [])
spelled (ternary op a b c) = spelled a ++ (spelled b ++ (spelled c ++ inr (inr (inr (inl op))) ∷ []))
spelled (select a relation b c d) = spelled a ++ (spelled b ++ (spelled c ++ (spelled d ++ inr (inr (inr (inr relation))) ∷ [])))

abbrev leaf : Leaf → Formula
leaf (inl (inl n)) = number n
leaf (inl (inr true)) = coordinate row
leaf (inl (inr false)) = coordinate column
leaf (inr (inl (g, (i, j)))) = read g (scale_of i) (scale_of j)
leaf (inr (inr (g, (divisor, kernel)))) = stencil g divisor kernel

-- the operation takes the formulas in front, the last operand first
abbrev made : Operation → List Formula → List Formula
made (inl (inl op)) (a ∷ fs) = unary op a ∷ fs
made (inl (inr (inl (op, n)))) (a ∷ fs) = literal op a n ∷ fs
made (inl (inr (inr t))) (a ∷ fs) = lookup (entries_of t) a ∷ fs
made (inr (inl op)) (b ∷ a ∷ fs) = binary op a b ∷ fs
made (inr (inr (inl op))) (c ∷ b ∷ a ∷ fs) = ternary op a b c ∷ fs
made (inr (inr (inr relation))) (d ∷ c ∷ b ∷ a ∷ fs) = select a relation b c d ∷ fs
made op fs = fs

abbrev pub gathered : List Step → List Formula → List Formula
gathered [] fs = fs
gathered (inl x ∷ steps) fs = gathered steps (leaf x ∷ fs)
gathered (inr op ∷ steps) fs = gathered steps (made op fs)

abbrev first : List Formula → Formula
first [] = number (pos 0)
first (f ∷ fs) = f

abbrev pub read_back : List Step → Formula
read_back steps = first (gathered steps [])

-- ---- what was spelled is read back

-- one list of operations after the other
gathered-append : (xs ys : List Step) (fs : List Formula) → gathered (xs ++ ys) fs ≡ gathered ys (gathered xs fs)
gathered-append [] ys fs = refl
gathered-append (inl x ∷ xs) ys fs = gathered-append xs ys (leaf x ∷ fs)
gathered-append (inr op ∷ xs) ys fs = gathered-append xs ys (made op fs)

both : (a : Formula) (ys : List Step) (fs : List Formula) → gathered (spelled a) fs ≡ a ∷ fs
    → gathered (spelled a ++ ys) fs ≡ gathered ys (a ∷ fs)
both a ys fs e = gathered-append (spelled a) ys fs ∙ ap (gathered ys) e

all_back : (f : Formula) (fs : List Formula) → gathered (spelled f) fs ≡ f ∷ fs
all_back (number n) fs = refl
all_back (coordinate row) fs = refl
all_back (coordinate column) fs = refl
all_back (read g i j) fs = refl
all_back (stencil g divisor kernel) fs = refl
all_back (unary op a) fs = both a (inr (inl (inl op)) ∷ []) fs (all_back a fs)
all_back (literal op a n) fs = both a (inr (inl (inr (inl (op, n)))) ∷ []) fs (all_back a fs)
all_back (lookup t a) fs = both a (inr (inl (inr (inr (ends_and_values t)))) ∷ []) fs (all_back a fs)
all_back (binary op a b) fs =
    both a (spelled b ++ inr (inr (inl op)) ∷ []) fs (all_back a fs)
    ∙ both b (inr (inr (inl op)) ∷ []) (a ∷ fs) (all_back b (a ∷ fs))
all_back (ternary op a b c) fs =
    both a (spelled b ++ (spelled c ++ inr (inr (inr (inl op))) ∷ [])) fs (all_back a fs)
    ∙ both b (spelled c ++ inr (inr (inr (inl op))) ∷ []) (a ∷ fs) (all_back b (a ∷ fs))
    ∙ both c (inr (inr (inr (inl op))) ∷ []) (b ∷ a ∷ fs) (all_back c (b ∷ a ∷ fs))
all_back (select a relation b c d) fs =
    both a (spelled b ++ (spelled c ++ (spelled d ++ inr (inr (inr (inr relation))) ∷ []))) fs (all_back a fs)
    ∙ both b (spelled c ++ (spelled d ++ inr (inr (inr (inr relation))) ∷ [])) (a ∷ fs) (all_back b (a ∷ fs))
    ∙ both c (spelled d ++ inr (inr (inr (inr relation))) ∷ []) (b ∷ a ∷ fs) (all_back c (b ∷ a ∷ fs))
    ∙ both d (inr (inr (inr (inr relation))) ∷ []) (c ∷ b ∷ a ∷ fs) (all_back d (c ∷ b ∷ a ∷ fs))

pub back : (f : Formula) → read_back (spelled f) ≡ f
back f = ap first (all_back f [])

abbrev pub formula_code : Coded Formula
formula_code = code_by (List Step) (coded_list step_code) spelled read_back back
