-- An index never falls, so its image of a span goes from the index at one end to that at the other.
use Rattle.std.proofs.Common.{ℤ, pos, negsuc, ◌≡◌, ◌+◌, ◌≤◌, ◌+ℤ◌, ◌*ℤ◌, ◌≤ℤ◌, refl, sym, ap, ◌∙◌, subst, arith, FitsSigned}
use Rattle.std.proofs.Common.{unsigned_abs, w32, to_z, of_z, lit≤, le_trans}
use Rattle.std.proofs.Math.Nat.{mul-le-mul, mul-le-mul_left}
use Rattle.std.proofs.lemmas.Int.{to_z-of_z, ints, clamps, unsigned_abs-mul, by_lt_z}
use Rattle.std.specs.Int.{int_min, int_max}
use borrow.Author.Differences.{up, down}
use Rattle.domains.specs.Arithmetic.{floor_div}
use Rattle.domains.specs.Span.{Ends, IsSpan, IsSubspan, hull_of}
use Rattle.domains.specs.Index.{Scale, IsIndex, IsImage, index_at, image_of}
use Rattle.domains.proofs.Floors.{floor_div_rises, floor_div_within}
use Rattle.domains.proofs.Spans.{ends_inside, inside_ends}
use Rattle.domains.proofs.Areas.{holds_lo, holds_hi}

-- a product with a number that is not negative never falls
product_rises : (m v w : ℤ) → pos 0 ≤ℤ m → v ≤ℤ w → (m *ℤ v) ≤ℤ (m *ℤ w)
product_rises (pos m) v w p h =
    let under : up v + down w ≤ up w + down v = omega (arith, ints) in
    omega (arith, ints, mul-le-mul_left m under)
product_rises (negsuc m) v w p h = absurd p.le

pub index_rises : (x : Scale) (v w : ℤ) → IsIndex x → v ≤ℤ w → index_at x v ≤ℤ index_at x w
index_rises x v w i h =
    let product = product_rises x.mul v w (omega (arith, ints)) h in
    floor_div_rises (x.mul *ℤ v +ℤ x.add) (x.mul *ℤ w +ℤ x.add) x.div (omega (arith, ints)) (omega (arith, ints))

pub image_is : (x : Scale) (s : Ends) → IsIndex x → IsSpan s → IsImage x s (image_of x s)
image_is x s i h = record {
  within = λ v k. (index_rises x s.lo v i k.0, index_rises x v s.hi i k.1);
  least = (s.lo, holds_lo s h, refl);
  greatest = (s.hi, holds_hi s h, refl);
}

-- what the code of an index computes
pub scaled_is : (m v k d q : ℤ) → FitsSigned w32 m → FitsSigned w32 v → FitsSigned w32 k → FitsSigned w32 d → FitsSigned w32 (m *ℤ v)
    → FitsSigned w32 (m *ℤ v +ℤ k)
    → q
    ≡ floor_div (to_z w32 (of_z w32 (to_z w32 (of_z w32 (to_z w32 (of_z w32 m) *ℤ to_z w32 (of_z w32 v))) +ℤ to_z w32 (of_z w32 k))))
    (to_z w32 (of_z w32 d)) → q ≡ floor_div (m *ℤ v +ℤ k) d
scaled_is m v k d q fm fv fk fd fp fs h = h ∙ simp to_z-of_z

sum_within : (p k : ℤ) → unsigned_abs p ≤ 524288 → negsuc 4095 ≤ℤ k → k ≤ℤ pos 4096
    → (negsuc 1048575 ≤ℤ (p +ℤ k)) × ((p +ℤ k) ≤ℤ pos 1048576)
sum_within (pos a) k h low high = (omega (arith, ints), omega (arith, ints))
sum_within (negsuc a) k h low high = (omega (arith, ints), omega (arith, ints))

-- the numerator of an index at an argument within its limits
numerator_within : (x : Scale) (v : ℤ) → IsIndex x → negsuc 32767 ≤ℤ v → v ≤ℤ pos 32768
    → (negsuc 1048575 ≤ℤ (x.mul *ℤ v +ℤ x.add)) × ((x.mul *ℤ v +ℤ x.add) ≤ℤ pos 1048576)
numerator_within x v i low high =
    let small : unsigned_abs x.mul ≤ 16 = omega (arith, ints) in
    let size : unsigned_abs v ≤ 32768 = omega (arith, ints) in
    let product : unsigned_abs (x.mul *ℤ v) ≤ 524288 = rw unsigned_abs-mul (le_trans (mul-le-mul small size) (lit≤ tt)) in
    sum_within (x.mul *ℤ v) x.add product i.add_least i.add_most

pub index_within : (x : Scale) (v : ℤ) → IsIndex x → negsuc 32767 ≤ℤ v → v ≤ℤ pos 32768
    → (negsuc 1048575 ≤ℤ index_at x v) × (index_at x v ≤ℤ pos 1048576)
index_within x v i low high =
    let n = numerator_within x v i low high in
    floor_div_within (x.mul *ℤ v +ℤ x.add) x.div 1048575 (omega (arith, ints)) n.0 n.1

-- the products and sums of an index fit
pub product_fits : (x : Scale) (v : ℤ) → IsIndex x → negsuc 32767 ≤ℤ v → v ≤ℤ pos 32768 → FitsSigned w32 (x.mul *ℤ v)
product_fits x v i low high =
    let n = numerator_within x v i low high in
    let first = n.0 in let second = n.1 in
    omega (arith, ints)

pub sum_fits : (x : Scale) (v : ℤ) → IsIndex x → negsuc 32767 ≤ℤ v → v ≤ℤ pos 32768 → FitsSigned w32 (x.mul *ℤ v +ℤ x.add)
sum_fits x v i low high =
    let n = numerator_within x v i low high in
    let first = n.0 in let second = n.1 in
    omega (arith, ints)

pub image_from : (x : Scale) (s t : Ends) → t ≡ image_of x s → IsIndex x → IsSpan s → IsImage x s t
image_from x s t e i h = subst (IsImage x s) (sym e) (image_is x s i h)

-- images grow with spans
pub images_rise : (x : Scale) (s t : Ends) → IsIndex x → IsSpan s → IsSubspan s t → IsSubspan (image_of x s) (image_of x t)
images_rise x s t i h f =
    let ends = ends_inside s t h f in
    inside_ends (image_of x s) (image_of x t) (index_rises x t.lo s.lo i ends.0) (index_rises x s.hi t.hi i ends.1)

least_image : (x : Scale) (v w : ℤ) → IsIndex x → index_at x (int_min v w) ≡ int_min (index_at x v) (index_at x w)
least_image x v w i = by_lt_z w v
    (λ h. let rises = index_rises x w v i (omega (arith, ints)) in
    let least : int_min v w ≡ w = omega (arith, ints, clamps) in
    ap (index_at x) least ∙ (let same : index_at x w ≡ int_min (index_at x v) (index_at x w) = omega (arith, ints, clamps, rises) in same))
    (λ h. let rises = index_rises x v w i h in
    let least : int_min v w ≡ v = omega (arith, ints, clamps) in
    ap (index_at x) least ∙ (let same : index_at x v ≡ int_min (index_at x v) (index_at x w) = omega (arith, ints, clamps, rises) in same))

greatest_image : (x : Scale) (v w : ℤ) → IsIndex x → index_at x (int_max v w) ≡ int_max (index_at x v) (index_at x w)
greatest_image x v w i = by_lt_z w v
    (λ h. let rises = index_rises x w v i (omega (arith, ints)) in
    let most : int_max v w ≡ v = omega (arith, ints, clamps) in
    ap (index_at x) most ∙ (let same : index_at x v ≡ int_max (index_at x v) (index_at x w) = omega (arith, ints, clamps, rises) in same))
    (λ h. let rises = index_rises x v w i h in
    let most : int_max v w ≡ w = omega (arith, ints, clamps) in
    ap (index_at x) most ∙ (let same : index_at x w ≡ int_max (index_at x v) (index_at x w) = omega (arith, ints, clamps, rises) in same))

-- the image of a hull is the hull of the images
pub image-hull : (x : Scale) (s t : Ends) → IsIndex x → image_of x (hull_of s t) ≡ hull_of (image_of x s) (image_of x t)
image-hull x s t i = λ k. record { lo = least_image x s.lo t.lo i k; hi = greatest_image x s.hi t.hi i k }

pub image_fits : (x : Scale) (s : Ends) → IsIndex x → IsSpan s → negsuc 32767 ≤ℤ s.lo → s.hi ≤ℤ pos 32768 → IsSpan (image_of x s)
image_fits x s i h low high =
    let first = index_within x s.lo i low (omega (arith, ints, h.ordered)) in
    let last = index_within x s.hi i (omega (arith, ints, h.ordered)) high in
    record { least = first.0; ordered = index_rises x s.lo s.hi i h.ordered; most = last.1 }
