-- What a formula reads at each point of a row, gathered along the row.
use Rattle.std.proofs.Common.{arith, ℕ, zero, suc, ℤ, ◌≡◌, ◌+◌, ◌-◌, ◌%◌, ◌<◌, ◌≤◌, ◌⊎◌, inl, inr, pos, ◌+ℤ◌, List, [], ◌∷◌, ◌++◌}
use Rattle.std.proofs.Common.{length, subst, sym, ap, ◌∙◌}
use Rattle.std.specs.Prelude.{All, slice_index_or}
use Rattle.std.proofs.lemmas.Bool.{cases_lt}
use Rattle.std.proofs.lemmas.List.Elements.{All-head, All-tail}
use Rattle.job.specs.Formula.{Formula, number, coordinate, read, unary, binary, ternary, literal, lookup, select, stencil}
use Rattle.job.specs.Values.{factors, under, kernel_row, kernel_column}
use Rattle.job.specs.Reads.{Read, point, window, reads_in, EachTaken}
use Rattle.job.specs.WellFormed.{IsFormula, IsKernel}
use Rattle.job.proofs.Agreeing.{All-left, All-right}
use Rattle.tile_eval.specs.Reading.{KernelWithin, ReadsWithin, HasRoom}
use Rattle.tile_eval.proofs.Sums.{under_shifted}

-- ---- kernels

width_is : (m : ℕ) (kernel : List (List ℤ)) (a : ℕ) → a < length kernel → All (λ row. length row ≡ m) kernel → length (factors kernel a) ≡ m
width_is m [] a l h = absurd (omega arith)
width_is m (x ∷ xs) zero l h = All-head (λ (row : List ℤ). length row ≡ m) x xs h
width_is m (x ∷ xs) (suc a) l h = width_is m xs a (omega arith) (All-tail (λ (row : List ℤ). length row ≡ m) x xs h)

odd_positive : (n : ℕ) → n % 2 ≡ 1 → 0 < n
odd_positive zero h = absurd (cc)
odd_positive (suc n) h = omega arith

-- a kernel has a row
pub has_rows : (kernel : List (List ℤ)) → IsKernel kernel → 0 < length kernel
has_rows kernel is = odd_positive (length kernel) is.height.0

-- the rows of a kernel have its width
pub row_width : (kernel : List (List ℤ)) (a : ℕ) → IsKernel kernel → a < length kernel
    → length (factors kernel a) ≡ length (factors kernel 0)
row_width kernel a is l = width_is (length (factors kernel 0)) kernel a l is.one_width

pub row_positive : (kernel : List (List ℤ)) (a : ℕ) → IsKernel kernel → a < length kernel → 0 < length (factors kernel a)
row_positive kernel a is l = rw (row_width kernel a is l) (odd_positive (length (factors kernel 0)) is.width.0)

pub few_factors : (kernel : List (List ℤ)) (a : ℕ) → IsKernel kernel → a < length kernel → length (factors kernel a) ≤ 15
few_factors kernel a is l = rw (row_width kernel a is l) is.width.1

-- the factors that were read
pub found_factors : (kernel : List (List ℤ)) (a : ℕ) (x : List ℤ) → a < length kernel → x ≡ slice_index_or kernel a x → x ≡ factors kernel a
found_factors [] a x l e = absurd (omega arith)
found_factors (y ∷ ys) zero x l e = e
found_factors (y ∷ ys) (suc a) x l e = found_factors ys a x (omega arith) e

-- ---- reads

module _ (has : ℕ → ℤ → ℤ → Type 0) (r c : ℤ) (n : ℕ) where
  -- all of these reads are there at each point of the row
  abbrev pub Along : List Read → Type 0
  Along xs = (k : ℕ) → k < n → All (λ x. EachTaken has x r (c +ℤ pos k)) xs

  front : (xs ys : List Read) → Along (xs ++ ys) → Along xs
  front xs ys h = λ k l. All-left (λ x. EachTaken has x r (c +ℤ pos k)) xs ys (h k l)

  back : (xs ys : List Read) → Along (xs ++ ys) → Along ys
  back xs ys h = λ k l. All-right (λ x. EachTaken has x r (c +ℤ pos k)) xs ys (h k l)

  first : (x : Read) → Along (x ∷ []) → (k : ℕ) → k < n → EachTaken has x r (c +ℤ pos k)
  first x h k l = All-head (λ y. EachTaken has y r (c +ℤ pos k)) x [] (h k l)

  under_kernel : (g : ℕ) (kernel : List (List ℤ)) → 0 < n → IsKernel kernel → Along (window g kernel ∷ [])
      → KernelWithin (has g) kernel r c n
  under_kernel g kernel some is h a j la lj = by (cases_lt j n)
    where
      at_tap : (k b : ℕ) → k < n → b < length (factors kernel a) → k + b ≡ j → has g (kernel_row kernel r a) (kernel_column kernel c j)
      at_tap k b lk lb e =
          subst (λ (v : ℤ). has g (kernel_row kernel r a) v)
          (sym (under_shifted c (length (factors kernel 0)) k b) ∙ ap (λ (i : ℕ). under c (length (factors kernel 0)) i) e)
          (first (window g kernel) h k lk a b la lb)

      by : (j < n) ⊎ (n ≤ j) → has g (kernel_row kernel r a) (kernel_column kernel c j)
      by (inl l) = at_tap j 0 l (row_positive kernel a is la) (omega arith)
      by (inr l) = at_tap (n - 1) (j - (n - 1)) (omega arith) (omega arith) (omega arith)

  pub reads_along : (f : Formula) → 0 < n → IsFormula f → Along (reads_in f) → ReadsWithin has f r c n
  reads_along (number m) some is h = tt
  reads_along (coordinate x) some is h = tt
  reads_along (read g i j) some is h = first (point g i j) h
  reads_along (unary op a) some is h = reads_along a some is h
  reads_along (binary op a b) some is h =
      (reads_along a some is.0 (front (reads_in a) (reads_in b) h), reads_along b some is.1 (back (reads_in a) (reads_in b) h))
  reads_along (ternary op a b d) some is h =
      let two = front (reads_in a ++ reads_in b) (reads_in d) h in (
        reads_along a some is.0 (front (reads_in a) (reads_in b) two),
        reads_along b some is.1 (back (reads_in a) (reads_in b) two),
        reads_along d some is.2 (back (reads_in a ++ reads_in b) (reads_in d) h),
      )
  reads_along (literal op a m) some is h = reads_along a some is.1 h
  reads_along (lookup t a) some is h = reads_along a some is.1 h
  reads_along (select a relation b x y) some is h =
      let three = front (reads_in a ++ reads_in b ++ reads_in x) (reads_in y) h in
      let two = front (reads_in a ++ reads_in b) (reads_in x) three in (
        reads_along a some is.0 (front (reads_in a) (reads_in b) two),
        reads_along b some is.1 (back (reads_in a) (reads_in b) two),
        reads_along x some is.2 (back (reads_in a ++ reads_in b) (reads_in x) three),
        reads_along y some is.3 (back (reads_in a ++ reads_in b ++ reads_in x) (reads_in y) h),
      )
  reads_along (stencil g divisor kernel) some is h = under_kernel g kernel some is.1 h

-- ---- room

-- fewer points want no more room
pub room_less : (f : Formula) (n m room more : ℕ) → m ≤ n → room ≤ more → HasRoom f n room → HasRoom f m more
room_less (number i) n m room more p q h = tt
room_less (coordinate x) n m room more p q h = tt
room_less (read g i j) n m room more p q h = tt
room_less (unary op a) n m room more p q h = room_less a n m room more p q h
room_less (binary op a b) n m room more p q h =
    let least = h.1 in (room_less a n m room more p q h.0, omega arith, room_less b n m (room - n) (more - m) p (omega arith) h.2)
room_less (ternary op a b c) n m room more p q h =
    let least = h.1 in let rest : room - (n + n) ≤ more - (m + m) = omega arith in (
      room_less a n m room more p q h.0,
      omega arith,
      room_less b n m (room - (n + n)) (more - (m + m)) p rest h.2,
      room_less c n m (room - (n + n)) (more - (m + m)) p rest h.3,
    )
room_less (literal op a i) n m room more p q h = room_less a n m room more p q h
room_less (lookup t a) n m room more p q h = room_less a n m room more p q h
room_less (select a relation b x y) n m room more p q h =
    let least = h.1 in let rest : room - (n + n + n) ≤ more - (m + m + m) = omega arith in (
      room_less x n m room more p q h.0,
      omega arith,
      room_less a n m (room - (n + n + n)) (more - (m + m + m)) p rest h.2,
      room_less b n m (room - (n + n + n)) (more - (m + m + m)) p rest h.3,
      room_less y n m (room - (n + n + n)) (more - (m + m + m)) p rest h.4,
    )
room_less (stencil g divisor kernel) n m room more p q h = omega arith
