-- What rows of kernels add at points.
use Rattle.std.proofs.Common.{arith, ℕ, ℤ, ◌≡◌, ◌+◌, ◌<◌, ◌≤◌, ◌-◌, pos, ◌+ℤ◌, ◌*ℤ◌, w32, to_z, of_z, FitsSigned, subst}
use Rattle.std.proofs.Common.{List, length, ◌∙◌, ap, sym}
use Rattle.std.proofs.lemmas.Int.{ints, to_z-of_z}
use Rattle.domains.specs.Arithmetic.{wrapped}
use Rattle.job.specs.Values.{under, factors, kernel_row, kernel_column}
use Rattle.job.proofs.Agreeing.{sum_below-agrees}
use Rattle.row_loops.specs.Rows.{at}
use Rattle.stencil_kernels.specs.Stencil.{tap_sum}
use Rattle.tile_eval.specs.inside.Stencil.{row_sum, IsUnder}

-- the place under a factor, counted from the place under the first one
pub under_first : (v : ℤ) (n j : ℕ) → under v n 0 +ℤ pos j ≡ under v n j
under_first v n j = omega (arith, ints)

pub under_shifted : (v : ℤ) (n k b : ℕ) → under v n (k + b) ≡ under (v +ℤ pos k) n b
under_shifted v n k b = omega (arith, ints)

-- a line under row a of a kernel gives what the row adds
pub row_sum_is : (kernel : List (List ℤ)) (f : ℤ → ℤ → ℤ) (r c : ℤ) (a k : ℕ) (line : List ℤ) → IsUnder kernel f r c a line
    → k + length (factors kernel a) ≤ length line
    → tap_sum (factors kernel a) line k ≡ row_sum kernel f r (c +ℤ pos k) a
row_sum_is kernel f r c a k line under h = sum_below-agrees (length (factors kernel a)) _ _ (λ b l.
    ap (λ (z : ℤ). at (factors kernel a) b *ℤ z)
    (under (k + b) (omega arith) ∙ ap (f (kernel_row kernel r a)) (under_shifted c (length (factors kernel 0)) k b)))

-- one more row: t is what adding it leaves
pub row_more : (kernel : List (List ℤ)) (f : ℤ → ℤ → ℤ) (r c : ℤ) (a k n : ℕ) (stencil line : List ℤ) (s t : ℤ) → stencil ≡ factors kernel a
    → IsUnder kernel f r c a line
    → length line ≡ n + length stencil - 1 → k < n → t ≡ wrapped (s +ℤ tap_sum stencil line k)
    → t ≡ wrapped (s +ℤ row_sum kernel f r (c +ℤ pos k) a)
row_more kernel f r c a k n stencil line s t e under len lt h =
    let same : length stencil ≡ length (factors kernel a) = ap length e in
    h ∙ ap (λ (z : ℤ). wrapped (s +ℤ z)) (ap (λ (ts : List ℤ). tap_sum ts line k) e ∙ row_sum_is kernel f r c a k line under (omega arith))

-- a place of a line, as it is asked for
pub there_under : (has : ℤ → ℤ → Type 0) (kernel : List (List ℤ)) (r c row col : ℤ) (a k : ℕ) → FitsSigned w32 row → FitsSigned w32 col
    → row ≡ kernel_row kernel r a → col ≡ kernel_column kernel c 0 → has (kernel_row kernel r a) (kernel_column kernel c k)
    → has (to_z w32 (of_z w32 row)) (to_z w32 (of_z w32 col) +ℤ pos k)
there_under has kernel r c row col a k row_fits col_fits row_is col_is h =
    let first : to_z w32 (of_z w32 col) +ℤ pos k ≡ kernel_column kernel c k =
    ap (λ (z : ℤ). z +ℤ pos k) (to_z-of_z w32 _ col_fits ∙ col_is) ∙ under_first c (length (factors kernel 0)) k in
    subst (λ (z : ℤ). has z (to_z w32 (of_z w32 col) +ℤ pos k)) (sym (to_z-of_z w32 _ row_fits ∙ row_is))
    (subst (λ (z : ℤ). has (kernel_row kernel r a) z) (sym first) h)

-- a line that was asked for there is the line under the row of the kernel
pub line_under : (f : ℤ → ℤ → ℤ) (kernel : List (List ℤ)) (r c row col : ℤ) (a n : ℕ) (line : List ℤ) → FitsSigned w32 row
    → FitsSigned w32 col
    → row ≡ kernel_row kernel r a → col ≡ kernel_column kernel c 0 → length line ≡ n
    → ((k : ℕ) → k < n → at line k ≡ f (to_z w32 (of_z w32 row)) (to_z w32 (of_z w32 col) +ℤ pos k)) → IsUnder kernel f r c a line
line_under f kernel r c row col a n line row_fits col_fits row_is col_is len h = λ k l.
    h k (subst (λ (m : ℕ). k < m) len l)
    ∙ ap (λ (z : ℤ). f z (to_z w32 (of_z w32 col) +ℤ pos k)) (to_z-of_z w32 _ row_fits ∙ row_is)
    ∙ ap (f (kernel_row kernel r a))
    (ap (λ (z : ℤ). z +ℤ pos k) (to_z-of_z w32 _ col_fits ∙ col_is) ∙ under_first c (length (factors kernel 0)) k)
