-- What sums read that a kernel stands for.
use Rattle.std.proofs.Common.{arith, ℕ, zero, suc, ℤ, ◌≡◌, ◌<◌, pos, ◌+ℤ◌, List, [], ◌∷◌, length, subst}
use Rattle.std.specs.Prelude.{All}
use Rattle.std.proofs.lemmas.Int.{ints}
use Rattle.std.proofs.lemmas.List.Elements.{All-head, All-tail, All-cons}
use Rattle.domains.specs.Index.{Scale}
use Rattle.job.specs.Formula.{Formula}
use Rattle.job.specs.Values.{factors}
use Rattle.job.specs.Reads.{Read, point, reads_in}
use Rattle.normal_formulas.specs.NormalKernels.{shift, row_over, rows_over}

module _ (Q : Read → Type 0) (g : ℕ) where
  -- Q holds of each read of a row, from column b on
  abbrev pub EachInRow : Scale → ℤ → List ℤ → Type 0
  EachInRow row b xs = (j : ℕ) → j < length xs → Q (point g row (shift (b +ℤ pos j)))

  abbrev pub EachInRows : ℤ → ℤ → List (List ℤ) → Type 0
  EachInRows a b kernel =
      (i j : ℕ) → i < length kernel → j < length (factors kernel i) → Q (point g (shift (a +ℤ pos i)) (shift (b +ℤ pos j)))

  -- ---- the first of a row, and the others

  moved : (row : Scale) (x y : ℤ) → x ≡ y → Q (point g row (shift x)) → Q (point g row (shift y))
  moved row x y e h = subst (λ (z : ℤ). Q (point g row (shift z))) e h

  raised : (x y : ℤ) (column : Scale) → x ≡ y → Q (point g (shift x) column) → Q (point g (shift y) column)
  raised x y column e h = subst (λ (z : ℤ). Q (point g (shift z) column)) e h

  row_joined : (row : Scale) (b x : ℤ) (xs : List ℤ) → Q (point g row (shift b)) → EachInRow row (b +ℤ pos 1) xs → EachInRow row b (x ∷ xs)
  row_joined row b x xs first others zero l = moved row b (b +ℤ pos 0) (omega (arith, ints)) first
  row_joined row b x xs first others (suc j) l =
      moved row (b +ℤ pos 1 +ℤ pos j) (b +ℤ pos (suc j)) (omega (arith, ints)) (others j (omega (arith, l)))

  first_in_row : (row : Scale) (b x : ℤ) (xs : List ℤ) → EachInRow row b (x ∷ xs) → Q (point g row (shift b))
  first_in_row row b x xs each = moved row (b +ℤ pos 0) b (omega (arith, ints)) (each 0 (omega arith))

  others_in_row : (row : Scale) (b x : ℤ) (xs : List ℤ) → EachInRow row b (x ∷ xs) → EachInRow row (b +ℤ pos 1) xs
  others_in_row row b x xs each j l =
      moved row (b +ℤ pos (suc j)) (b +ℤ pos 1 +ℤ pos j) (omega (arith, ints)) (each (suc j) (omega (arith, l)))

  -- ---- the first row, and the others

  rows_joined : (a b : ℤ) (xs : List ℤ) (kernel : List (List ℤ)) → EachInRow (shift a) b xs → EachInRows (a +ℤ pos 1) b kernel
      → EachInRows a b (xs ∷ kernel)
  rows_joined a b xs kernel first others zero j li lj =
      raised a (a +ℤ pos 0) (shift (b +ℤ pos j)) (omega (arith, ints)) (first j lj)
  rows_joined a b xs kernel first others (suc i) j li lj =
      raised (a +ℤ pos 1 +ℤ pos i) (a +ℤ pos (suc i)) (shift (b +ℤ pos j)) (omega (arith, ints)) (others i j (omega (arith, li)) lj)

  first_in_rows : (a b : ℤ) (xs : List ℤ) (kernel : List (List ℤ)) → EachInRows a b (xs ∷ kernel) → EachInRow (shift a) b xs
  first_in_rows a b xs kernel each j l =
      raised (a +ℤ pos 0) a (shift (b +ℤ pos j)) (omega (arith, ints)) (each 0 j (omega arith) l)

  others_in_rows : (a b : ℤ) (xs : List ℤ) (kernel : List (List ℤ)) → EachInRows a b (xs ∷ kernel) → EachInRows (a +ℤ pos 1) b kernel
  others_in_rows a b xs kernel each i j li lj =
      raised (a +ℤ pos (suc i)) (a +ℤ pos 1 +ℤ pos i) (shift (b +ℤ pos j)) (omega (arith, ints)) (each (suc i) j (omega (arith, li)) lj)

  -- ---- the reads of a sum

  row_reads : (base : Formula) (row : Scale) (b : ℤ) (xs : List ℤ) → All Q (reads_in (row_over base g row b xs))
      → EachInRow row b xs × All Q (reads_in base)
  row_reads base row b [] each = (λ j l. absurd (omega (arith, l)), each)
  row_reads base row b (x ∷ xs) each =
      let rest = reads_in (row_over base g row (b +ℤ pos 1) xs) in
      let back = row_reads base row (b +ℤ pos 1) xs (All-tail Q (point g row (shift b)) rest each) in
      (row_joined row b x xs (All-head Q (point g row (shift b)) rest each) back.0, back.1)

  reads_of_row : (base : Formula) (row : Scale) (b : ℤ) (xs : List ℤ) → EachInRow row b xs → All Q (reads_in base)
      → All Q (reads_in (row_over base g row b xs))
  reads_of_row base row b [] each own = own
  reads_of_row base row b (x ∷ xs) each own =
      All-cons Q (point g row (shift b)) (reads_in (row_over base g row (b +ℤ pos 1) xs)) (first_in_row row b x xs each)
      (reads_of_row base row (b +ℤ pos 1) xs (others_in_row row b x xs each) own)

  pub rows_reads : (base : Formula) (a b : ℤ) (kernel : List (List ℤ)) → All Q (reads_in (rows_over base g a b kernel))
      → EachInRows a b kernel × All Q (reads_in base)
  rows_reads base a b [] each = (λ i j li lj. absurd (omega (arith, li)), each)
  rows_reads base a b (xs ∷ kernel) each =
      let rest = rows_over base g (a +ℤ pos 1) b kernel in
      let row = row_reads rest (shift a) b xs each in
      let others = rows_reads base (a +ℤ pos 1) b kernel row.1 in
      (rows_joined a b xs kernel row.0 others.0, others.1)

  pub reads_of_rows : (base : Formula) (a b : ℤ) (kernel : List (List ℤ)) → EachInRows a b kernel → All Q (reads_in base)
      → All Q (reads_in (rows_over base g a b kernel))
  reads_of_rows base a b [] each own = own
  reads_of_rows base a b (xs ∷ kernel) each own =
      reads_of_row (rows_over base g (a +ℤ pos 1) b kernel) (shift a) b xs (first_in_rows a b xs kernel each)
      (reads_of_rows base (a +ℤ pos 1) b kernel (others_in_rows a b xs kernel each) own)
