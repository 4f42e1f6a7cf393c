-- Two valuations that have one value for all that is read give one value.
use Rattle.std.proofs.Common.{ℕ, ◌≡◌, ℤ, pos, ◌*ℤ◌, List, [], ◌∷◌, ◌++◌, length}
use Rattle.std.proofs.Common.{ap, ◌∙◌, refl}
use Rattle.std.specs.Prelude.{All, if◌then◌else◌, slice_index_or}
use Rattle.std.proofs.lemmas.List.Elements.{All-nil, All-cons, All-head, All-tail}
use Rattle.domains.specs.Arithmetic.{wrapped, floor_div}
use Rattle.tables.specs.Entries.{entry_at}
use Rattle.job.specs.Formula.{Formula, number, coordinate, read, unary, binary, ternary, literal, lookup, select, stencil}
use Rattle.job.specs.Values.{Valuation, unary_value, binary_value, ternary_value, literal_value, is_related, factors, weighted_sum, formula_value}
pub use Rattle.operators.proofs.KernelSums.{sum_below-agrees}
use Rattle.job.specs.Reads.{Read, point, window, reads_in, EachTaken, EachRead, SameAt}

-- what holds of each element of two lists holds of those of each
pub All-left : {X : Type 0} (P : X → Type 0) (xs ys : List X) → All P (xs ++ ys) → All P xs
All-left P [] ys h = All-nil P
All-left P (x ∷ xs) ys h = All-cons P x xs (All-head P x (xs ++ ys) h) (All-left P xs ys (All-tail P x (xs ++ ys) h))

pub All-right : {X : Type 0} (P : X → Type 0) (xs ys : List X) → All P (xs ++ ys) → All P ys
All-right P [] ys h = h
All-right P (x ∷ xs) ys h = All-right P xs ys (All-tail P x (xs ++ ys) h)

module _ (e h : Valuation) (r c : ℤ) where
  pub weighted_sum-agrees : (g : ℕ) (kernel : List (List ℤ)) → EachTaken (SameAt e h) (window g kernel) r c
      → weighted_sum kernel (e g) r c ≡ weighted_sum kernel (h g) r c
  weighted_sum-agrees g kernel same =
      sum_below-agrees (length kernel) _ _ (λ a la. sum_below-agrees (length (factors kernel a)) _ _ (λ b lb.
      ap (λ (z : ℤ). slice_index_or (factors kernel a) b (pos 0) *ℤ z) (same a b la lb)))

  -- a formula has one value where all that it reads has
  pub formula_value-agrees : (f : Formula) → EachRead (SameAt e h) f r c → formula_value e f r c ≡ formula_value h f r c
  formula_value-agrees (number n) same = refl
  formula_value-agrees (coordinate x) same = refl
  formula_value-agrees (read g i j) same = All-head (λ x. EachTaken (SameAt e h) x r c) (point g i j) [] same
  formula_value-agrees (unary op a) same = ap (unary_value op) (formula_value-agrees a same)
  formula_value-agrees (binary op a b) same =
      ap (λ (z : ℤ). binary_value op z (formula_value e b r c))
      (formula_value-agrees a (All-left (λ x. EachTaken (SameAt e h) x r c) (reads_in a) (reads_in b) same))
      ∙ ap (λ (z : ℤ). binary_value op (formula_value h a r c) z)
      (formula_value-agrees b (All-right (λ x. EachTaken (SameAt e h) x r c) (reads_in a) (reads_in b) same))
  formula_value-agrees (ternary op a b d) same =
      let P : Read → Type 0 = λ x. EachTaken (SameAt e h) x r c in
      let front : All P (reads_in a ++ reads_in b) = All-left P (reads_in a ++ reads_in b) (reads_in d) same in
      ap (λ (z : ℤ). ternary_value op z (formula_value e b r c) (formula_value e d r c))
      (formula_value-agrees a (All-left P (reads_in a) (reads_in b) front))
      ∙ ap (λ (z : ℤ). ternary_value op (formula_value h a r c) z (formula_value e d r c))
      (formula_value-agrees b (All-right P (reads_in a) (reads_in b) front))
      ∙ ap (λ (z : ℤ). ternary_value op (formula_value h a r c) (formula_value h b r c) z)
      (formula_value-agrees d (All-right P (reads_in a ++ reads_in b) (reads_in d) same))
  formula_value-agrees (literal op a n) same = ap (λ (z : ℤ). literal_value op z n) (formula_value-agrees a same)
  formula_value-agrees (lookup t a) same = ap (entry_at t) (formula_value-agrees a same)
  formula_value-agrees (select a relation b first second) same =
      let P : Read → Type 0 = λ x. EachTaken (SameAt e h) x r c in
      let three : All P (reads_in a ++ reads_in b ++ reads_in first) =
      All-left P (reads_in a ++ reads_in b ++ reads_in first) (reads_in second) same in
      let two : All P (reads_in a ++ reads_in b) = All-left P (reads_in a ++ reads_in b) (reads_in first) three in
      ap (λ (z : ℤ). if is_related relation z (formula_value e b r c) then formula_value e first r c else formula_value e second r c)
      (formula_value-agrees a (All-left P (reads_in a) (reads_in b) two))
      ∙ ap (λ (z : ℤ). if is_related relation (formula_value h a r c) z then formula_value e first r c else formula_value e second r c)
      (formula_value-agrees b (All-right P (reads_in a) (reads_in b) two))
      ∙ ap (λ (z : ℤ). if is_related relation (formula_value h a r c) (formula_value h b r c) then z else formula_value e second r c)
      (formula_value-agrees first (All-right P (reads_in a ++ reads_in b) (reads_in first) three))
      ∙ ap (λ (z : ℤ). if is_related relation (formula_value h a r c) (formula_value h b r c) then formula_value h first r c else z)
      (formula_value-agrees second (All-right P (reads_in a ++ reads_in b ++ reads_in first) (reads_in second) same))
  formula_value-agrees (stencil g divisor kernel) same =
      ap (λ (z : ℤ). floor_div (wrapped z) (pos divisor))
      (weighted_sum-agrees g kernel (All-head (λ x. EachTaken (SameAt e h) x r c) (window g kernel) [] same))
