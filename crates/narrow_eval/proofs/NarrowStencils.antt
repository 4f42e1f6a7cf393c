-- Sums under kernels, which are divided.
use Rattle.std.proofs.Common.{arith, ℕ, zero, suc, ℤ, neg_ℤ, ◌≡◌, ◌+◌, ◌*◌, ◌<◌, ◌≤◌, ◌-◌, pos, ◌+ℤ◌, ◌-ℤ◌, ◌*ℤ◌, ◌<ℤ◌, w16, w32, FitsSigned, sym, ap, ◌∙◌, refl}
use Rattle.std.proofs.Common.{List, length, take, drop}
use Rattle.std.specs.Int.{int_wrap}
use Rattle.std.proofs.Math.IntN.{+ℤ_idr, +ℤ-suc_ℤ, suc_ℤ-*ℤ}
use Rattle.std.proofs.Math.Nat.{suc-mul}
use Rattle.std.proofs.lemmas.Int.{ints, int_wrap_fits}
use Rattle.std.proofs.lemmas.Grind.{common_steps}
use Rattle.domains.specs.Arithmetic.{wrapped, floor_div, floor_rem}
use Rattle.domains.proofs.Floors.{floor_splits, floor_only}
use Rattle.job.specs.Values.{factors, kernel_row}
use Rattle.job.proofs.Agreeing.{sum_below-agrees}
use Rattle.row_loops.specs.Rows.{at}
use Rattle.tile_eval.specs.inside.Stencil.{row_sum, IsUnder}
use Rattle.tile_eval.proofs.Sums.{under_shifted}
use Rattle.value_ranges.specs.Narrow.{Fits16}
use Rattle.narrow_sums.proofs.NarrowAddends.{same_add, same_wrapped}
use Rattle.narrow_eval.specs.NarrowStencils.{line_total}

-- ---- sums that are divided

-- the sum at 16 bits is that at 32, with a number that makes it fit
pub sum_with_number : (z n s : ℤ) → wrapped z +ℤ n ≡ s → Fits16 s → int_wrap w16 (z +ℤ n) ≡ s
sum_with_number z n s e fits =
    sym (same_add (wrapped z) z n n (same_wrapped z) refl) ∙ ap (int_wrap w16) e ∙ int_wrap_fits w16 s fits

times_sum : (q : ℤ) (m d : ℕ) → (q +ℤ pos m) *ℤ pos d ≡ q *ℤ pos d +ℤ pos (m * d)
times_sum q zero d = let none : 0 * d ≡ 0 = omega arith in ap (λ (z : ℤ). z *ℤ pos d) (+ℤ_idr q) ∙ omega (arith, ints, none)
times_sum q (suc m) d =
    let product : suc m * d ≡ m * d + d = suc-mul m d in
    ap (λ (z : ℤ). z *ℤ pos d) (+ℤ-suc_ℤ q (pos m)) ∙ suc_ℤ-*ℤ (q +ℤ pos m) (pos d) ∙ ap (λ (z : ℤ). z +ℤ pos d) (times_sum q m d)
    ∙ omega (arith, ints, product)

-- a quotient is as much more as divisors are added to what is divided
pub quotient_in_steps : (s x : ℤ) (m d : ℕ) → 0 < d → x ≡ s -ℤ pos (m * d) → floor_div x (pos d) +ℤ pos m ≡ floor_div s (pos d)
quotient_in_steps s x m d some is =
    let above : pos 0 <ℤ pos d = omega (arith, ints) in
    let f = floor_splits x (pos d) above in
    let split = f.split in
    let times = times_sum (floor_div x (pos d)) m d in
    (floor_only s (pos d) (floor_div x (pos d) +ℤ pos m) (floor_rem x (pos d)) above record {
      split = omega (arith, ints, split, times, is);
      least = f.least;
      below = f.below;
    }).0

-- the quotient of a sum from the one without some divisors
pub value_in_steps : (z n : ℤ) (m d : ℕ) → 0 < d → n ≡ neg_ℤ (pos (m * d)) → Fits16 (wrapped z -ℤ pos (m * d))
    → floor_div (int_wrap w16 (z +ℤ n)) (pos d) +ℤ pos m ≡ floor_div (wrapped z) (pos d)
value_in_steps z n m d some is fits =
    ap (λ (y : ℤ). floor_div y (pos d) +ℤ pos m) (sum_with_number z n (wrapped z -ℤ pos (m * d)) (omega (arith, ints, is)) fits)
    ∙ quotient_in_steps (wrapped z) (wrapped z -ℤ pos (m * d)) m d some refl

-- without any the quotient is of the sum itself
pub value_without_steps : (z n : ℤ) (m d : ℕ) → 0 < d → m ≡ 0 → n ≡ neg_ℤ (pos (m * d)) → Fits16 (wrapped z -ℤ pos (m * d))
    → floor_div (int_wrap w16 (z +ℤ n)) (pos d) ≡ floor_div (wrapped z) (pos d)
value_without_steps z n m d some none is fits =
    let quotient = floor_div (int_wrap w16 (z +ℤ n)) (pos d) in
    sym (ap (λ (i : ℕ). quotient +ℤ pos i) none ∙ +ℤ_idr quotient) ∙ value_in_steps z n m d some is fits

pub wrapped_value : (v : ℤ) → Fits16 v → wrapped v ≡ v
wrapped_value v fits = let long : FitsSigned w32 v = omega (arith, ints, fits) in int_wrap_fits w32 v long

-- ---- stencils

-- a line under row a of a kernel gives what the row adds
pub row_total_is : (kernel : List (List ℤ)) (f : ℤ → ℤ → ℤ) (r c : ℤ) (a k : ℕ) (line : List ℤ) → IsUnder kernel f r c a line
    → k + length (factors kernel a) ≤ length line
    → line_total (length (factors kernel a)) (factors kernel a) line k ≡ row_sum kernel f r (c +ℤ pos k) a
row_total_is kernel f r c a k line under h = sum_below-agrees (length (factors kernel a)) _ _ (λ b l.
    ap (λ (z : ℤ). at (factors kernel a) b *ℤ z)
    (under (k + b) (omega arith) ∙ ap (f (kernel_row kernel r a)) (under_shifted c (length (factors kernel 0)) k b)))

-- one more row
pub row_more : (kernel : List (List ℤ)) (f : ℤ → ℤ → ℤ) (r c : ℤ) (a k n : ℕ) (row line : List ℤ) (s : ℤ) → row ≡ factors kernel a
    → IsUnder kernel f r c a line → length line ≡ n + length row - 1 → k < n
    → s +ℤ line_total (length row) row line k ≡ s +ℤ row_sum kernel f r (c +ℤ pos k) a
row_more kernel f r c a k n row line s e under len lt =
    let same : length row ≡ length (factors kernel a) = ap length e in
    ap (λ (z : ℤ). s +ℤ z)
    (ap (λ (ts : List ℤ). line_total (length ts) ts line k) e ∙ row_total_is kernel f r c a k line under (omega arith))

-- one more factor of a row: its product is with the number at place k of the part of the line from place b on
pub product_more : (f total given factor x y : ℤ) → given ≡ factor → x ≡ y
    → f +ℤ total +ℤ given *ℤ x ≡ f +ℤ (total +ℤ factor *ℤ y)
product_more f total given factor x y e h =
    ap (λ (z : ℤ). f +ℤ total +ℤ z *ℤ x) e ∙ ap (λ (z : ℤ). f +ℤ total +ℤ factor *ℤ z) h ∙ add_assoc f total (factor *ℤ y)
  where
    add_assoc : (a b c : ℤ) → a +ℤ b +ℤ c ≡ a +ℤ (b +ℤ c)
    add_assoc a b c = omega (arith, ints)

-- a number of a part of a line
pub part_at : (b m k : ℕ) (xs : List ℤ) → k < m - b → m ≤ length xs → at (take (m - b) (drop b xs)) k ≡ at xs (k + b)
part_at b m k xs l le = grind (arith, common_steps)
