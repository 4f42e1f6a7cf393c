-- Sums of factors and numbers of a line, a piece of the factors at a time.
use Rattle.std.proofs.Common.{arith, ℕ, zero, suc, ℤ, ◌≡◌, ◌+◌, ◌<◌, ◌≤◌, ◌-◌, ◌+ℤ◌, ◌*ℤ◌, List, length, take, drop, ◌∙◌, pos}
use Rattle.std.proofs.Common.{ap, sym, add-zero}
use Rattle.std.proofs.Math.IntN.{+ℤ_assoc, +ℤ_idr, +ℤ_idl}
use Rattle.std.proofs.lemmas.Grind.{common_steps}
use Rattle.domains.specs.Arithmetic.{wrapped}
use Rattle.operators.specs.Values.{sum_below}
use Rattle.operators.proofs.KernelSums.{sum_below-agrees}
use Rattle.row_loops.specs.Rows.{at}
use Rattle.stencil_kernels.specs.Stencil.{tap_sum}
use Rattle.stencil_kernels.proofs.Taps.{tap_of_other}

-- a sum in two pieces
pub sum_below_split : (b n : ℕ) (f : ℕ → ℤ) → sum_below (b + n) f ≡ sum_below b f +ℤ sum_below n (λ j. f (b + j))
sum_below_split b zero f = ap (λ (m : ℕ). sum_below m f) (add-zero b) ∙ sym (+ℤ_idr (sum_below b f))
sum_below_split b (suc n) f =
    let step : b + suc n ≡ suc (b + n) = omega arith in
    ap (λ (m : ℕ). sum_below m f) step
    ∙ ap (λ (z : ℤ). z +ℤ f (b + n)) (sum_below_split b n f)
    ∙ +ℤ_assoc (sum_below b f) (sum_below n (λ j. f (b + j))) (f (b + n))

-- the numbers from a place on, and those before it
at_rest : (xs : List ℤ) (b j : ℕ) → b + j < length xs → at (take (length xs - b) (drop b xs)) j ≡ at xs (b + j)
at_rest xs b j h = grind (arith, common_steps)

at_front : (xs : List ℤ) (n j : ℕ) → j < n → n ≤ length xs → at (take n xs) j ≡ at xs j
at_front xs n j l h = grind (arith, common_steps)

-- one more piece, of p factors from place b on: t is what adding its products leaves
pub piece_more : (s t : ℤ) (line ks : List ℤ) (k b p : ℕ) → b + p ≤ length ks → k + length ks ≤ length line
    → t ≡ wrapped (s +ℤ sum_below b (λ j. at ks j *ℤ at line (k + j))
    +ℤ sum_below p (λ j. at (take (length ks - b) (drop b ks)) j *ℤ at (take (length line - b) (drop b line)) (k + j)))
    → t ≡ wrapped (s +ℤ sum_below (b + p) (λ j. at ks j *ℤ at line (k + j)))
piece_more s t line ks k b p few enough h =
    h ∙ ap wrapped (+ℤ_assoc s (sum_below b product) _)
    ∙ ap (λ (z : ℤ). wrapped (s +ℤ z))
    (ap (λ (z : ℤ). sum_below b product +ℤ z) (sum_below-agrees p _ _ same) ∙ sym (sum_below_split b p product))
  where
    product : ℕ → ℤ
    product j = at ks j *ℤ at line (k + j)

    same : (j : ℕ) → j < p
        → at (take (length ks - b) (drop b ks)) j *ℤ at (take (length line - b) (drop b line)) (k + j) ≡ product (b + j)
    same j l =
        let turned : b + (k + j) ≡ k + (b + j) = omega arith in
        let number : at (take (length line - b) (drop b line)) (k + j) ≡ at line (k + (b + j)) =
        at_rest line b (k + j) (omega arith) ∙ ap (at line) turned in
        λ i. at_rest ks b j (omega arith) i *ℤ number i

-- a piece is the first n factors
pub piece_sum : (n : ℕ) (fs ks line : List ℤ) (k : ℕ) (s x t : ℤ) → fs ≡ take n ks → n ≤ length ks → x ≡ wrapped s
    → t ≡ wrapped (x +ℤ wrapped (tap_sum fs line k)) → t ≡ wrapped (s +ℤ sum_below n (λ b. at ks b *ℤ at line (k + b)))
piece_sum n fs ks line k s x t is many e h =
    let len : length (take n ks) ≡ n = grind (arith, common_steps) in
    tap_of_other s x (tap_sum fs line k) t e h
    ∙ ap (λ (ts : List ℤ). wrapped (s +ℤ tap_sum ts line k)) is
    ∙ ap (λ (m : ℕ). wrapped (s +ℤ sum_below m (λ b. at (take n ks) b *ℤ at line (k + b)))) len
    ∙ ap (λ (z : ℤ). wrapped (s +ℤ z))
    (sum_below-agrees n _ _ (λ b l. ap (λ (z : ℤ). z *ℤ at line (k + b)) (at_front ks n b l many)))

-- a piece is the first factor
pub piece_of_one : (s t f : ℤ) (ks line : List ℤ) (k n : ℕ) → k < n → n ≤ length line → f ≡ at ks 0
    → t ≡ wrapped (s +ℤ f *ℤ at (take n line) k) → t ≡ wrapped (s +ℤ sum_below 1 (λ b. at ks b *ℤ at line (k + b)))
piece_of_one s t f ks line k n l enough is h =
    h
    ∙ (λ i. wrapped (s +ℤ is i *ℤ at_front line n k l enough i))
    ∙ (λ i. wrapped (s +ℤ sym (+ℤ_idl (at ks 0 *ℤ at line (sym (add-zero k) i))) i))

-- sums that begin with a piece: t is the first n factors, times the numbers under them
pub first_piece : (n : ℕ) (fs ks line : List ℤ) (k : ℕ) (t : ℤ) → fs ≡ take n ks → n ≤ length ks
    → t ≡ wrapped (tap_sum fs line k) → t ≡ wrapped (sum_below n (λ b. at ks b *ℤ at line (k + b)))
first_piece n fs ks line k t is many h =
    let len : length (take n ks) ≡ n = grind (arith, common_steps) in
    h
    ∙ ap (λ (ts : List ℤ). wrapped (tap_sum ts line k)) is
    ∙ ap (λ (m : ℕ). wrapped (sum_below m (λ b. at (take n ks) b *ℤ at line (k + b)))) len
    ∙ ap wrapped (sum_below-agrees n _ _ (λ b l. ap (λ (z : ℤ). z *ℤ at line (k + b)) (at_front ks n b l many)))

-- and go on with the rest of the factors: t is what adding them to s leaves, where s is a piece of b factors
pub rest_more : (t : ℤ) (line ks : List ℤ) (k b : ℕ) → b ≤ length ks → k + length ks ≤ length line
    → t ≡ wrapped (sum_below b (λ j. at ks j *ℤ at line (k + j))
    +ℤ tap_sum (take (length ks - b) (drop b ks)) (take (length line - b) (drop b line)) k)
    → t ≡ wrapped (tap_sum ks line k)
rest_more t line ks k b few enough h =
    let len : length (take (length ks - b) (drop b ks)) ≡ length ks - b = grind (arith, common_steps) in
    let whole : b + (length ks - b) ≡ length ks = omega arith in
    let fits : b + (length ks - b) ≤ length ks = omega arith in
    let first = sym (+ℤ_idl (sum_below b (λ j. at ks j *ℤ at line (k + j)))) in
    let t_is = h
    ∙ ap (λ (m : ℕ). wrapped (sum_below b (λ j. at ks j *ℤ at line (k + j))
    +ℤ sum_below m (λ j. at (take (length ks - b) (drop b ks)) j *ℤ at (take (length line - b) (drop b line)) (k + j)))) len
    ∙ ap (λ (z : ℤ). wrapped (z
    +ℤ sum_below (length ks - b) (λ j. at (take (length ks - b) (drop b ks)) j *ℤ at (take (length line - b) (drop b line)) (k + j)))) first in
    piece_more (pos 0) t line ks k b (length ks - b) fits enough t_is
    ∙ ap wrapped (+ℤ_idl (sum_below (b + (length ks - b)) (λ j. at ks j *ℤ at line (k + j))))
    ∙ ap (λ (m : ℕ). wrapped (sum_below m (λ j. at ks j *ℤ at line (k + j)))) whole
