-- Indices that only add.
use Rattle.std.proofs.Common.{arith, ℕ, zero, ℤ, ◌≡◌, pos, negsuc, ◌+ℤ◌, ◌*ℤ◌, neg_ℤ, ◌*◌, suc, ◌/◌, ap, sym, ◌∙◌}
use Rattle.std.proofs.Math.IntN.{suc_ℤ, +ℤ-suc_ℤ, pos-*ℤ-pos, pos-*ℤ-negsuc, *ℤ_comm, suc_ℤ-*ℤ, +ℤ_idr}
use Rattle.std.proofs.Common.{FitsSigned, w32, to_z, of_z}
use Rattle.std.proofs.lemmas.Int.{ints, to_z-of_z}
use Rattle.domains.specs.Arithmetic.{floor_div}
use Rattle.domains.specs.Index.{Scale, IsIndex, index_at}
use Rattle.domains.proofs.Indices.{index_rises}
use Rattle.domains.proofs.Lengths.{gap_is}
use Rattle.row_kernels.specs.Columns.{column_gap}

by_one : (z : ℤ) → floor_div z (pos 1) ≡ z
by_one (pos a) = let same : a / 1 ≡ a = omega arith in ap pos same
by_one (negsuc a) = let same : a / 1 ≡ a = omega arith in ap negsuc same

one_times : (z : ℤ) → pos 1 *ℤ z ≡ z
one_times (pos a) = let same : 1 * a ≡ a = omega arith in pos-*ℤ-pos 1 a ∙ ap pos same
one_times (negsuc a) = let same : 1 * suc a ≡ suc a = omega arith in pos-*ℤ-negsuc 1 a ∙ ap (λ (n : ℕ). neg_ℤ (pos n)) same

swapped : (v a : ℤ) (k : ℕ) → v +ℤ a +ℤ pos k ≡ v +ℤ pos k +ℤ a
swapped v a k = omega (arith, ints)

only_adds : (x : Scale) (v : ℤ) → x.mul ≡ pos 1 → x.div ≡ pos 1 → index_at x v ≡ v +ℤ x.add
only_adds x v m d =
    ap (λ (z : ℤ). floor_div (z *ℤ v +ℤ x.add) x.div) m ∙ ap (λ (z : ℤ). floor_div (pos 1 *ℤ v +ℤ x.add) z) d
    ∙ by_one (pos 1 *ℤ v +ℤ x.add) ∙ ap (λ (z : ℤ). z +ℤ x.add) (one_times v)

-- it takes columns side by side to columns side by side
pub columns_follow : (x : Scale) (v : ℤ) (k : ℕ) → x.mul ≡ pos 1 → x.div ≡ pos 1 → index_at x v +ℤ pos k ≡ index_at x (v +ℤ pos k)
columns_follow x v k m d = ap (λ (z : ℤ). z +ℤ pos k) (only_adds x v m d) ∙ swapped v x.add k ∙ sym (only_adds x (v +ℤ pos k) m d)

-- ---- indices that do not divide

next_number : (v : ℤ) (k : ℕ) → v +ℤ pos (suc k) ≡ suc_ℤ (v +ℤ pos k)
next_number v k = +ℤ-suc_ℤ v (pos k)

next_product : (p a : ℤ) (k m : ℕ) → p +ℤ pos (k * m) +ℤ pos m ≡ p +ℤ pos (suc k * m)
next_product p a k m = omega (arith, ints)

-- a product with a number further on
pub times_further : (m : ℕ) (v : ℤ) (k : ℕ) → pos m *ℤ (v +ℤ pos k) ≡ pos m *ℤ v +ℤ pos (k * m)
times_further m v zero =
    let none : 0 ≡ 0 * m = omega arith in
    ap (λ (z : ℤ). pos m *ℤ z) (+ℤ_idr v) ∙ sym (+ℤ_idr (pos m *ℤ v)) ∙ ap (λ (n : ℕ). pos m *ℤ v +ℤ pos n) none
times_further m v (suc k) =
    ap (λ (z : ℤ). pos m *ℤ z) (next_number v k)
    ∙ *ℤ_comm (pos m) (suc_ℤ (v +ℤ pos k)) ∙ suc_ℤ-*ℤ (v +ℤ pos k) (pos m)
    ∙ ap (λ (z : ℤ). z +ℤ pos m) (*ℤ_comm (v +ℤ pos k) (pos m) ∙ times_further m v k)
    ∙ next_product (pos m *ℤ v) v k m

pub further : (p a : ℤ) (n : ℕ) → p +ℤ pos n +ℤ a ≡ p +ℤ a +ℤ pos n
further p a n = omega (arith, ints)

undivided : (x : Scale) (m : ℕ) (v : ℤ) → x.mul ≡ pos m → x.div ≡ pos 1 → index_at x v ≡ pos m *ℤ v +ℤ x.add
undivided x m v e d =
    ap (λ (z : ℤ). floor_div (z *ℤ v +ℤ x.add) x.div) e ∙ ap (λ (z : ℤ). floor_div (pos m *ℤ v +ℤ x.add) z) d ∙ by_one (pos m *ℤ v +ℤ x.add)

-- it takes columns side by side to columns at steps of one length
pub columns_step : (x : Scale) (m : ℕ) (v : ℤ) (k : ℕ) → x.mul ≡ pos m → x.div ≡ pos 1
    → index_at x (v +ℤ pos k) ≡ index_at x v +ℤ pos (k * m)
columns_step x m v k e d =
    undivided x m (v +ℤ pos k) e d ∙ ap (λ (z : ℤ). z +ℤ x.add) (times_further m v k) ∙ further (pos m *ℤ v) x.add (k * m)
    ∙ ap (λ (z : ℤ). z +ℤ pos (k * m)) (sym (undivided x m v e d))

-- ---- how far its columns lie from one another

-- an index goes on by the gap
pub gap_goes : (x : Scale) (c : ℤ) → IsIndex x → (k : ℕ) → index_at x (c +ℤ pos k) ≡ index_at x c +ℤ pos (column_gap x c k)
gap_goes x c i k = sym (gap_is (index_at x c) (index_at x (c +ℤ pos k)) (index_rises x c (c +ℤ pos k) i (omega (arith, ints))))

-- and by nothing else
pub gap_found : (x : Scale) (c : ℤ) (k n : ℕ) → index_at x (c +ℤ pos k) ≡ index_at x c +ℤ pos n → column_gap x c k ≡ n
gap_found x c k n e =
    let far = gap_is (index_at x c) (index_at x (c +ℤ pos k)) (omega (arith, ints, e)) in
    omega (arith, ints, far, e)

-- what the code of a column computes
pub column_is : (x : Scale) (c v : ℤ) → FitsSigned w32 c → FitsSigned w32 v → v ≡ index_at x (to_z w32 (of_z w32 c))
    → to_z w32 (of_z w32 v) ≡ index_at x c
column_is x c v from fits is = to_z-of_z w32 v fits ∙ is ∙ ap (index_at x) (to_z-of_z w32 c from)
