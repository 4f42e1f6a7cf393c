-- Numbers between ends, and what is made of them.
use Rattle.std.proofs.Common.{ℕ, ℤ, pos, negsuc, suc, ◌+◌, ◌≤◌, ◌≡◌, ◌*ℤ◌, ◌+ℤ◌, ◌≤ℤ◌, ◌<ℤ◌, FitsSigned, w32, arith, sym, subst}
use Rattle.std.specs.Prelude.{unsigned_abs, max}
use Rattle.std.specs.Int.{int_min, int_max}
use Rattle.std.proofs.Math.Nat.{mul-le-mul_left, mul-le-mul_right}
use Rattle.std.proofs.lemmas.Int.{ints, clamps, SFits-int_wrap}
use borrow.Author.Differences.{up, down}
use Rattle.domains.specs.Arithmetic.{wrapped, floor_div}
use Rattle.domains.proofs.Floors.{floor_div_rises}
use Rattle.operators.specs.declared.operator.TernaryOp.{TernaryOp}
use Rattle.operators.specs.declared.operator.TernaryOp.TheVariants.{Clamp}
use Rattle.operators.specs.Values.{ternary_value}
use Rattle.operators.proofs.Fitting.{to_bounds}
use Rattle.value_ranges.specs.declared.value_range.ValueRange.{ValueRange}
use Rattle.value_ranges.specs.Ranges.{InRange, full_range}
use Rattle.value_ranges.specs.inside.Found.{IsBetween}

-- each number of 32 bits lies in the full range
pub in_full : (range : ValueRange) (v : ℤ) → range ≡ full_range → FitsSigned w32 v → InRange range v
in_full range v full fits =
    let ends = to_bounds v fits in
    subst (λ (x : ValueRange). InRange x v) (sym full) (record { low = ends.0; high = ends.1 })

pub wrapped_in_full : (range : ValueRange) (v : ℤ) → range ≡ full_range → InRange range (wrapped v)
wrapped_in_full range v full = in_full range (wrapped v) full (SFits-int_wrap w32 v)

-- ---- products

-- a factor keeps an order if it is not below 0, and turns it if it is
rises : (a b : ℤ) (n : ℕ) → a ≤ℤ b → (a *ℤ pos n) ≤ℤ (b *ℤ pos n)
rises a b n h =
    let more : up a + down b ≤ up b + down a = omega (arith, ints) in
    let times = mul-le-mul_right n more in
    omega (arith, ints, times)

falls : (a b : ℤ) (n : ℕ) → a ≤ℤ b → (b *ℤ negsuc n) ≤ℤ (a *ℤ negsuc n)
falls a b n h =
    let more : up a + down b ≤ up b + down a = omega (arith, ints) in
    let times = mul-le-mul_right (suc n) more in
    omega (arith, ints, times)

rises_left : (a b : ℤ) (n : ℕ) → a ≤ℤ b → (pos n *ℤ a) ≤ℤ (pos n *ℤ b)
rises_left a b n h =
    let more : up a + down b ≤ up b + down a = omega (arith, ints) in
    let times = mul-le-mul_left n more in
    omega (arith, ints, times)

falls_left : (a b : ℤ) (n : ℕ) → a ≤ℤ b → (negsuc n *ℤ b) ≤ℤ (negsuc n *ℤ a)
falls_left a b n h =
    let more : up a + down b ≤ up b + down a = omega (arith, ints) in
    let times = mul-le-mul_left (suc n) more in
    omega (arith, ints, times)

-- what bounds the products of both ends bounds those of the numbers between
above_right : (lo hi v w least : ℤ) → lo ≤ℤ v → v ≤ℤ hi → least ≤ℤ (lo *ℤ w) → least ≤ℤ (hi *ℤ w) → least ≤ℤ (v *ℤ w)
above_right lo hi v (pos n) least l h a b = omega (arith, ints, rises lo v n l)
above_right lo hi v (negsuc n) least l h a b = omega (arith, ints, falls v hi n h)

below_right : (lo hi v w most : ℤ) → lo ≤ℤ v → v ≤ℤ hi → (lo *ℤ w) ≤ℤ most → (hi *ℤ w) ≤ℤ most → (v *ℤ w) ≤ℤ most
below_right lo hi v (pos n) most l h a b = omega (arith, ints, rises v hi n h)
below_right lo hi v (negsuc n) most l h a b = omega (arith, ints, falls lo v n l)

above_left : (lo hi v w least : ℤ) → lo ≤ℤ w → w ≤ℤ hi → least ≤ℤ (v *ℤ lo) → least ≤ℤ (v *ℤ hi) → least ≤ℤ (v *ℤ w)
above_left lo hi (pos n) w least l h a b = omega (arith, ints, rises_left lo w n l)
above_left lo hi (negsuc n) w least l h a b = omega (arith, ints, falls_left w hi n h)

below_left : (lo hi v w most : ℤ) → lo ≤ℤ w → w ≤ℤ hi → (v *ℤ lo) ≤ℤ most → (v *ℤ hi) ≤ℤ most → (v *ℤ w) ≤ℤ most
below_left lo hi (pos n) w most l h a b = omega (arith, ints, rises_left w hi n h)
below_left lo hi (negsuc n) w most l h a b = omega (arith, ints, falls_left lo w n l)

pub product_above : (a b : ValueRange) (v w least : ℤ) → InRange a v → InRange b w → least ≤ℤ (a.lo *ℤ b.lo) → least ≤ℤ (a.lo *ℤ b.hi)
    → least ≤ℤ (a.hi *ℤ b.lo) → least ≤ℤ (a.hi *ℤ b.hi) → least ≤ℤ (v *ℤ w)
product_above a b v w least va wb p q s t =
    above_right a.lo a.hi v w least va.low va.high (above_left b.lo b.hi a.lo w least wb.low wb.high p q)
    (above_left b.lo b.hi a.hi w least wb.low wb.high s t)

pub product_below : (a b : ValueRange) (v w most : ℤ) → InRange a v → InRange b w → (a.lo *ℤ b.lo) ≤ℤ most → (a.lo *ℤ b.hi) ≤ℤ most
    → (a.hi *ℤ b.lo) ≤ℤ most → (a.hi *ℤ b.hi) ≤ℤ most → (v *ℤ w) ≤ℤ most
product_below a b v w most va wb p q s t =
    below_right a.lo a.hi v w most va.low va.high (below_left b.lo b.hi a.lo w most wb.low wb.high p q)
    (below_left b.lo b.hi a.hi w most wb.low wb.high s t)

-- the products of the ends, by their own names
pub products_between : (a b : ValueRange) (p q s t least most : ℤ) → p ≡ a.lo *ℤ b.lo → q ≡ a.lo *ℤ b.hi → s ≡ a.hi *ℤ b.lo
    → t ≡ a.hi *ℤ b.hi → least ≤ℤ p → least ≤ℤ q → least ≤ℤ s → least ≤ℤ t → p ≤ℤ most → q ≤ℤ most → s ≤ℤ most → t ≤ℤ most
    → (v w : ℤ) → InRange a v → InRange b w → IsBetween (least, most) (v *ℤ w)
products_between a b p q s t least most p_is q_is s_is t_is p_low q_low s_low t_low p_high q_high s_high t_high v w x y =
    let above : ℤ → Type 0 = λ z. least ≤ℤ z in
    let below : ℤ → Type 0 = λ z. z ≤ℤ most in
    record {
      low = product_above a b v w least x y (subst above p_is p_low) (subst above q_is q_low) (subst above s_is s_low)
          (subst above t_is t_low);
      high = product_below a b v w most x y (subst below p_is p_high) (subst below q_is q_high) (subst below s_is s_high)
          (subst below t_is t_high);
    }

pub square_above : (v : ℤ) → pos 0 ≤ℤ (v *ℤ v)
square_above (pos n) = omega (arith, ints)
square_above (negsuc n) = omega (arith, ints)

-- ---- the other operators

pub min_in : (a b range : ValueRange) (v w : ℤ) → InRange a v → InRange b w → range.lo ≡ int_min a.lo b.lo → range.hi ≡ int_min a.hi b.hi
    → InRange range (int_min v w)
min_in a b range v w x y low high =
    let al = x.low in let ah = x.high in let bl = y.low in let bh = y.high in
    record { low = omega (arith, ints, clamps); high = omega (arith, ints, clamps) }

pub max_in : (a b range : ValueRange) (v w : ℤ) → InRange a v → InRange b w → range.lo ≡ int_max a.lo b.lo → range.hi ≡ int_max a.hi b.hi
    → InRange range (int_max v w)
max_in a b range v w x y low high =
    let al = x.low in let ah = x.high in let bl = y.low in let bh = y.high in
    record { low = omega (arith, ints, clamps); high = omega (arith, ints, clamps) }

pub ternary_in : (op : TernaryOp) (a b d range : ValueRange) (v l h : ℤ) → InRange a v → InRange b l → InRange d h
    → range.lo ≡ int_min (int_max a.lo b.lo) d.lo → range.hi ≡ int_min (int_max a.hi b.hi) d.hi
    → InRange range (ternary_value op v l h)
ternary_in Clamp a b d range v l h x y z low high =
    let al = x.low in let ah = x.high in let bl = y.low in let bh = y.high in let dl = z.low in let dh = z.high in
    record { low = omega (arith, ints, clamps); high = omega (arith, ints, clamps) }

pub quotient_in : (a range : ValueRange) (v d : ℤ) → pos 0 <ℤ d → InRange a v → range.lo ≡ floor_div a.lo d → range.hi ≡ floor_div a.hi d
    → InRange range (floor_div v d)
quotient_in a range v d above x low high = record {
  low = subst (λ (z : ℤ). z ≤ℤ floor_div v d) (sym low) (floor_div_rises a.lo v d above x.low);
  high = subst (λ (z : ℤ). floor_div v d ≤ℤ z) (sym high) (floor_div_rises v a.hi d above x.high);
}

-- ---- sums

pub sum_more : (least greatest lo hi least' greatest' total product : ℤ) → IsBetween (least, greatest) total → IsBetween (lo, hi) product
    → least' ≡ least +ℤ lo → greatest' ≡ greatest +ℤ hi → IsBetween (least', greatest') (total +ℤ product)
sum_more least greatest lo hi least' greatest' total product before here low high =
    let bl = before.low in let bh = before.high in let hl = here.low in let hh = here.high in
    record { low = omega (arith, ints); high = omega (arith, ints) }

-- ends that are equal to others
pub between_same : (least greatest least' greatest' v v' : ℤ) → IsBetween (least, greatest) v → least' ≡ least → greatest' ≡ greatest
    → v' ≡ v → IsBetween (least', greatest') v'
between_same least greatest least' greatest' v v' is low high same =
    let l = is.low in let h = is.high in record { low = omega (arith, ints); high = omega (arith, ints) }

pub magnitude_within : (range : ValueRange) (v : ℤ) → InRange range v → unsigned_abs v ≤ max (unsigned_abs range.lo) (unsigned_abs range.hi)
magnitude_within range (pos n) is = let l = is.low in let h = is.high in omega (arith, ints)
magnitude_within range (negsuc n) is = let l = is.low in let h = is.high in omega (arith, ints)
