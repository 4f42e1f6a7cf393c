-- Laws of the columns of a phase.
use Rattle.std.proofs.Common.{arith, ℕ, ℤ, ◌≡◌, ◌*◌, ◌<◌, pos, ◌+ℤ◌, ◌-ℤ◌, ◌*ℤ◌, ◌≤ℤ◌, ◌<ℤ◌, ◌↔◌, ap, sym, refl, subst, ◌∙◌}
use Rattle.std.proofs.Common.{Bool, true, false}
use Rattle.std.specs.Prelude.{int_le}
use Rattle.std.specs.Int.{int_gap, int_min, int_max}
use Rattle.std.proofs.lemmas.Int.{ints, clamps, by_lt_z}
use Rattle.domains.specs.Area.{HoldsPoint}
use Rattle.domains.specs.Arithmetic.{IsFloor, floor_div, floor_rem}
use Rattle.domains.specs.Index.{Scale, IsIndex, index_at}
use Rattle.domains.specs.Span.{Ends, Holds}
use Rattle.domains.specs.declared.area.Area.{Area}
use Rattle.domains.proofs.Floors.{floor_splits, floor_only, floor_div_rises}
use Rattle.domains.proofs.Lengths.{gap_is}
use Rattle.column_phases.proofs.Products.{over_sum, sum_times, three_factors}
use Rattle.row_kernels.proofs.Columns.{times_further}
use Rattle.std.proofs.Math.IntN.{*ℤ_comm}
use Rattle.column_phases.specs.Phases.{column_of, first_from, last_to, phase_ends, phase_area, phase_index, HasSteps}

-- ---- divisions

-- whole divisors come out of a division, and leave what it leaves
floor_more : (q b d : ℤ) → pos 0 <ℤ d → IsFloor (q *ℤ d +ℤ b) d (q +ℤ floor_div b d) (floor_rem b d)
floor_more q b d some =
    let f = floor_splits b d some in
    record { split = omega (arith, ints, f.split, sum_times q (floor_div b d) d); least = f.least; below = f.below }

pub div_more : (q b d : ℤ) → pos 0 <ℤ d → floor_div (q *ℤ d +ℤ b) d ≡ q +ℤ floor_div b d
div_more q b d some = sym ((floor_only (q *ℤ d +ℤ b) d (q +ℤ floor_div b d) (floor_rem b d) some (floor_more q b d some)).0)

pub rem_more : (q b d : ℤ) → pos 0 <ℤ d → floor_rem (q *ℤ d +ℤ b) d ≡ floor_rem b d
rem_more q b d some = sym ((floor_only (q *ℤ d +ℤ b) d (q +ℤ floor_div b d) (floor_rem b d) some (floor_more q b d some)).1)

-- what leaves nothing is a product
pub product_of : (a d : ℤ) → pos 0 <ℤ d → floor_rem a d ≡ pos 0 → a ≡ floor_div a d *ℤ d
product_of a d some none = let f = floor_splits a d some in omega (arith, ints, f.split, none)

-- a number below the divisor has no quotient
small_div : (b d : ℤ) → pos 0 ≤ℤ b → b <ℤ d → floor_div b d ≡ pos 0
small_div b d least below =
    let some : pos 0 <ℤ d = omega (arith, ints) in
    let floor : IsFloor b d (pos 0) b = record { split = omega (arith, ints); least = least; below = below } in
    sym ((floor_only b d (pos 0) b some floor).0)

small_rem : (b d : ℤ) → pos 0 ≤ℤ b → b <ℤ d → floor_rem b d ≡ b
small_rem b d least below =
    let some : pos 0 <ℤ d = omega (arith, ints) in
    let floor : IsFloor b d (pos 0) b = record { split = omega (arith, ints); least = least; below = below } in
    sym ((floor_only b d (pos 0) b some floor).1)

-- a product rises with its factor
times_rise : (P : ℕ) (x y : ℤ) → x ≤ℤ y → (pos P *ℤ x) ≤ℤ (pos P *ℤ y)
times_rise P x y h =
    let k = int_gap x y in
    let more : pos P *ℤ (x +ℤ pos k) ≡ pos P *ℤ x +ℤ pos (k * P) = times_further P x k in
    let same : x +ℤ pos k ≡ y = gap_is x y h in
    subst (λ (z : ℤ). (pos P *ℤ x) ≤ℤ (pos P *ℤ z)) same (omega (arith, ints, more))

-- ---- the columns of a phase below and above others

module _ (P p : ℕ) (some : 0 < P) where
  divisor : pos 0 <ℤ pos P
  divisor = omega (arith, ints)

  pub last_rises : (v w : ℤ) → v ≤ℤ w → last_to P p v ≤ℤ last_to P p w
  last_rises v w h = floor_div_rises (v -ℤ pos p) (w -ℤ pos p) (pos P) divisor (omega (arith, ints))

  pub first_rises : (v w : ℤ) → v ≤ℤ w → first_from P p v ≤ℤ first_from P p w
  first_rises v w h = last_rises (v +ℤ pos P -ℤ pos 1) (w +ℤ pos P -ℤ pos 1) (omega (arith, ints))

  pub last_from : (v j : ℤ) → column_of P p j ≤ℤ v → j ≤ℤ last_to P p v
  last_from v j h =
      let quotient : floor_div (j *ℤ pos P +ℤ pos 0) (pos P) ≡ j +ℤ floor_div (pos 0) (pos P) = div_more j (pos 0) (pos P) divisor in
      let none = small_div (pos 0) (pos P) (omega (arith, ints)) divisor in
      let product = *ℤ_comm j (pos P) in
      let up = floor_div_rises (j *ℤ pos P +ℤ pos 0) (v -ℤ pos p) (pos P) divisor (omega (arith, ints, product, h)) in
      omega (arith, ints, quotient, none, up)

  pub last_below : (v j : ℤ) → j ≤ℤ last_to P p v → column_of P p j ≤ℤ v
  last_below v j h =
      let f = floor_splits (v -ℤ pos p) (pos P) divisor in
      let up = times_rise P j (last_to P p v) h in
      let product = *ℤ_comm (last_to P p v) (pos P) in
      omega (arith, ints, f.split, f.least, up, product)

  pub first_above : (v j : ℤ) → first_from P p v ≤ℤ j → v ≤ℤ column_of P p j
  first_above v j h =
      let f = floor_splits (v +ℤ pos P -ℤ pos 1 -ℤ pos p) (pos P) divisor in
      let up = times_rise P (first_from P p v) j h in
      let product = *ℤ_comm (first_from P p v) (pos P) in
      omega (arith, ints, f.split, f.below, up, product)

  pub first_to : (v j : ℤ) → v ≤ℤ column_of P p j → first_from P p v ≤ℤ j
  first_to v j h =
      let quotient : floor_div (j *ℤ pos P +ℤ (pos P -ℤ pos 1)) (pos P) ≡ j +ℤ floor_div (pos P -ℤ pos 1) (pos P) =
      div_more j (pos P -ℤ pos 1) (pos P) divisor in
      let none = small_div (pos P -ℤ pos 1) (pos P) (omega (arith, ints)) (omega (arith, ints)) in
      let product = *ℤ_comm j (pos P) in
      let up =
      floor_div_rises (v +ℤ pos P -ℤ pos 1 -ℤ pos p) (j *ℤ pos P +ℤ (pos P -ℤ pos 1)) (pos P) divisor (omega (arith, ints, product, h)) in
      omega (arith, ints, quotient, none, up)

  -- a number lies in the phase of a span where its column lies in the span
  pub Holds-phase : (s : Ends) (j : ℤ) → Holds (phase_ends P p s) j ↔ Holds s (column_of P p j)
  Holds-phase s j = (
    (λ h. (first_above s.lo j h.0, last_below s.hi j h.1)),
    (λ h. (first_to s.lo j h.0, last_from s.hi j h.1)),
  )

  pub HoldsPoint-phase : (a : Area) (r j : ℤ) → HoldsPoint (phase_area P p a) r j ↔ HoldsPoint a r (column_of P p j)
  HoldsPoint-phase a r j = ((λ h. (h.0, (Holds-phase a.cols j).0 h.1)), (λ h. (h.0, (Holds-phase a.cols j).1 h.1)))

  -- the last column below a column of the phase is that column itself, and so is the first above
  pub own : (v : ℤ) → floor_rem (v -ℤ pos p) (pos P) ≡ pos 0 → column_of P p (last_to P p v) ≡ v
  own v none =
      let product = product_of (v -ℤ pos p) (pos P) divisor none in
      let turned = *ℤ_comm (last_to P p v) (pos P) in
      omega (arith, ints, product, turned)

  pub last_of_column : (j : ℤ) → last_to P p (column_of P p j) ≡ j
  last_of_column j =
      let least = last_from (column_of P p j) j (omega (arith, ints)) in
      let most = last_below (column_of P p j) (last_to P p (column_of P p j)) (omega (arith, ints)) in
      let rises = by_next j in
      omega (arith, ints, least, rises)
    where
      -- the next column lies above
      by_next : (j : ℤ) → last_to P p (column_of P p j) ≤ℤ j
      by_next j =
          let same : column_of P p j -ℤ pos p ≡ j *ℤ pos P +ℤ pos 0 = omega (arith, ints, *ℤ_comm j (pos P)) in
          let none = small_div (pos 0) (pos P) (omega (arith, ints)) divisor in
          let quotient = ap (λ (z : ℤ). floor_div z (pos P)) same ∙ div_more j (pos 0) (pos P) divisor in
          omega (arith, ints, quotient, none)

  pub rem_of_column : (j : ℤ) → floor_rem (column_of P p j -ℤ pos p) (pos P) ≡ pos 0
  rem_of_column j =
      let same : column_of P p j -ℤ pos p ≡ j *ℤ pos P +ℤ pos 0 = omega (arith, ints, *ℤ_comm j (pos P)) in
      ap (λ (z : ℤ). floor_rem z (pos P)) same ∙ rem_more j (pos 0) (pos P) divisor ∙ small_rem (pos 0) (pos P) (omega (arith, ints)) divisor

  pub own_first : (v : ℤ) → floor_rem (v -ℤ pos p) (pos P) ≡ pos 0 → first_from P p v ≡ last_to P p v
  own_first v none =
      let is = own v none in
      let least = first_to v (last_to P p v) (omega (arith, ints, is)) in
      let above = first_above v (first_from P p v) (omega (arith, ints)) in
      let rises = last_rises v (column_of P p (first_from P p v)) above in
      let back = last_of_column (first_from P p v) in
      omega (arith, ints, least, rises, back)

  pub none_between : (v w : ℤ) → int_le v w ≡ false → int_le (first_from P p v) (last_to P p w) ≡ false
  none_between v w h = by (int_le (first_from P p v) (last_to P p w)) refl
    where
      by : (b : Bool) → int_le (first_from P p v) (last_to P p w) ≡ b → int_le (first_from P p v) (last_to P p w) ≡ false
      by false e = e
      by true e =
          let above = first_above v (first_from P p v) (omega (arith, ints)) in
          let below = last_below w (first_from P p v) (omega (arith, ints, e)) in
          absurd (omega (arith, ints, above, below, h))

-- ---- the least and the greatest

pub min_rises : (f : ℤ → ℤ) → ((x y : ℤ) → x ≤ℤ y → f x ≤ℤ f y) → (a b : ℤ) → f (int_min a b) ≡ int_min (f a) (f b)
min_rises f up a b = by_lt_z b a over under
  where
    over : b <ℤ a → f (int_min a b) ≡ int_min (f a) (f b)
    over h =
        let is : int_min a b ≡ b = omega (arith, ints, clamps) in
        let rises = up b a (omega (arith, ints)) in ap f is ∙ omega (arith, ints, clamps, rises)

    under : a ≤ℤ b → f (int_min a b) ≡ int_min (f a) (f b)
    under h =
        let is : int_min a b ≡ a = omega (arith, ints, clamps) in let rises = up a b h in ap f is ∙ omega (arith, ints, clamps, rises)

pub max_rises : (f : ℤ → ℤ) → ((x y : ℤ) → x ≤ℤ y → f x ≤ℤ f y) → (a b : ℤ) → f (int_max a b) ≡ int_max (f a) (f b)
max_rises f up a b = by_lt_z b a over under
  where
    over : b <ℤ a → f (int_max a b) ≡ int_max (f a) (f b)
    over h =
        let is : int_max a b ≡ a = omega (arith, ints, clamps) in
        let rises = up b a (omega (arith, ints)) in ap f is ∙ omega (arith, ints, clamps, rises)

    under : a ≤ℤ b → f (int_max a b) ≡ int_max (f a) (f b)
    under h =
        let is : int_max a b ≡ b = omega (arith, ints, clamps) in let rises = up a b h in ap f is ∙ omega (arith, ints, clamps, rises)

-- ---- indices

by_one : (z : ℤ) → floor_div z (pos 1) ≡ z
by_one z = let f = floor_splits z (pos 1) (omega (arith, ints)) in omega (arith, ints, f.split, f.least, f.below)

module _ (P p : ℕ) (x : Scale) (is : IsIndex x) (steps : HasSteps P p x) where
  pub index_phase : (j : ℤ) → index_at (phase_index P p x) j ≡ index_at x (column_of P p j)
  index_phase j =
      let some : pos 0 <ℤ x.div = omega (arith, ints, is.div_least) in
      let s = floor_div (x.mul *ℤ pos P) x.div in
      let b = x.mul *ℤ pos p +ℤ x.add in
      let whole : x.mul *ℤ pos P ≡ s *ℤ x.div = product_of (x.mul *ℤ pos P) x.div some steps.whole in
      let spread : x.mul *ℤ column_of P p j ≡ x.mul *ℤ (pos P *ℤ j) +ℤ x.mul *ℤ pos p = over_sum x.mul (pos P *ℤ j) (pos p) in
      let turned : x.mul *ℤ (pos P *ℤ j) ≡ s *ℤ j *ℤ x.div =
      sym (three_factors x.mul (pos P) j) ∙ ap (λ (z : ℤ). z *ℤ j) whole ∙ three_factors s x.div j
      ∙ ap (λ (z : ℤ). s *ℤ z) (*ℤ_comm x.div j) ∙ sym (three_factors s j x.div) in
      let all : x.mul *ℤ column_of P p j +ℤ x.add ≡ s *ℤ j *ℤ x.div +ℤ b = omega (arith, ints, spread, turned) in
      by_one (s *ℤ j +ℤ index_at x (pos p)) ∙ sym (div_more (s *ℤ j) b x.div some) ∙ sym (ap (λ (z : ℤ). floor_div z x.div) all)
