-- Indices that divide.
use Rattle.std.proofs.Common.{arith, ℕ, ℤ, ◌≡◌, pos, ◌+◌, ◌*◌, ◌/◌, ◌%◌, ◌<◌, ◌+ℤ◌, ◌*ℤ◌, ap, sym, ◌∙◌, refl, subst}
use Rattle.std.proofs.Math.IntN.{*ℤ_comm}
use Rattle.std.proofs.Math.Nat.{mod-lt}
use Rattle.std.proofs.lemmas.Nat.{div-add-mod'}
use Rattle.std.proofs.Common.{negsuc, unsigned_abs, ◌≤ℤ◌, ◌<ℤ◌, FitsSigned, w32, to_z, of_z}
use Rattle.std.proofs.lemmas.Int.{ints, to_z-of_z}
use Rattle.domains.specs.Arithmetic.{IsFloor, floor_div, floor_rem}
use Rattle.domains.specs.Index.{Scale, index_at}
use Rattle.domains.proofs.Floors.{floor_only, floor_splits}
use Rattle.row_kernels.proofs.Columns.{further, times_further}

-- what a division leaves is a number from 0 on, below the divisor
pub rest_natural : (a d q : ℤ) → pos 0 <ℤ d → d ≤ℤ pos 16 → q ≡ floor_rem a d
    → (floor_rem a d ≡ pos (unsigned_abs q)) × (unsigned_abs q < 16) × (pos (unsigned_abs q) <ℤ d)
rest_natural a d (pos n) some most is =
    let f = floor_splits a d some in (sym is, omega (arith, ints, f.below), omega (arith, ints, f.below))
rest_natural a d (negsuc n) some most is = let f = floor_splits a d some in absurd (omega (arith, ints, f.least))

-- what the code of that division computes
pub rest_is : (m v k d q : ℤ) → FitsSigned w32 m → FitsSigned w32 v → FitsSigned w32 k → FitsSigned w32 d → FitsSigned w32 (m *ℤ v)
    → FitsSigned w32 (m *ℤ v +ℤ k)
    → q
    ≡ floor_rem (to_z w32 (of_z w32 (to_z w32 (of_z w32 (to_z w32 (of_z w32 m) *ℤ to_z w32 (of_z w32 v))) +ℤ to_z w32 (of_z w32 k))))
    (to_z w32 (of_z w32 d)) → q ≡ floor_rem (m *ℤ v +ℤ k) d
rest_is m v k d q fm fv fk fd fp fs h = h ∙ simp to_z-of_z

pub quotients_add : (q : ℤ) (n d : ℕ) → (q +ℤ pos n) *ℤ pos d ≡ q *ℤ pos d +ℤ pos (n * d)
quotients_add q n d = *ℤ_comm (q +ℤ pos n) (pos d) ∙ times_further d q n ∙ ap (λ (z : ℤ). z +ℤ pos (n * d)) (*ℤ_comm (pos d) q)

-- a division goes on from what it left
goes_on : (a q : ℤ) (n m left d : ℕ) → 0 < d → IsFloor a (pos d) q (pos left) → m ≡ left + n
    → floor_div (a +ℤ pos n) (pos d) ≡ q +ℤ pos (m / d)
goes_on a q n m left d some is same =
    let parts = div-add-mod' m d in
    let small = mod-lt m some in
    let floor : IsFloor (a +ℤ pos n) (pos d) (q +ℤ pos (m / d)) (pos (m % d)) =
    record { split = omega (arith, ints, is.split, parts, same, quotients_add q (m / d) d); least = omega (arith, ints); below = omega (arith, ints, small) } in
    sym ((floor_only (a +ℤ pos n) (pos d) (q +ℤ pos (m / d)) (pos (m % d)) (omega (arith, ints)) floor).0)

-- an index takes columns side by side to columns as far from the first as its division goes on
pub columns_divide : (x : Scale) (v : ℤ) (m d left : ℕ) → x.mul ≡ pos m → x.div ≡ pos d → 0 < d
    → floor_rem (x.mul *ℤ v +ℤ x.add) x.div ≡ pos left → (k : ℕ)
    → index_at x (v +ℤ pos k) ≡ index_at x v +ℤ pos ((left + k * m) / d)
columns_divide x v m d left e f some rest k =
    let a : ℤ = pos m *ℤ v +ℤ x.add in
    let of_scale : (z : ℤ) → index_at x z ≡ floor_div (pos m *ℤ z +ℤ x.add) (pos d) = λ z.
    ap (λ (y : ℤ). floor_div (y *ℤ z +ℤ x.add) x.div) e ∙ ap (λ (y : ℤ). floor_div (pos m *ℤ z +ℤ x.add) y) f in
    let left_is : floor_rem a (pos d) ≡ pos left =
    sym (ap (λ (y : ℤ). floor_rem (y *ℤ v +ℤ x.add) x.div) e ∙ ap (λ (y : ℤ). floor_rem a y) f) ∙ rest in
    let is : IsFloor a (pos d) (floor_div a (pos d)) (pos left) =
    subst (IsFloor a (pos d) (floor_div a (pos d))) left_is (floor_splits a (pos d) (omega (arith, ints))) in
    let same : pos m *ℤ (v +ℤ pos k) +ℤ x.add ≡ a +ℤ pos (k * m) =
    ap (λ (z : ℤ). z +ℤ x.add) (times_further m v k) ∙ further (pos m *ℤ v) x.add (k * m) in
    of_scale (v +ℤ pos k) ∙ ap (λ (z : ℤ). floor_div z (pos d)) same
    ∙ goes_on a (floor_div a (pos d)) (k * m) (left + k * m) left d some is refl ∙ ap (λ (z : ℤ). z +ℤ pos ((left + k * m) / d)) (sym (of_scale v))

-- where such an index only adds, and divides by 2
pub halves_go : (left k step divisor : ℕ) → step ≡ 1 → divisor ≡ 2 → (left + k * step) / divisor ≡ (left + k) / 2
halves_go left k step divisor one two = rw (one, two) (let same : (left + k * 1) / 2 ≡ (left + k) / 2 = omega arith in same)
