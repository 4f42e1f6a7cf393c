-- Laws of tests and boxes at the columns of a phase.
use Rattle.std.proofs.Common.{arith, ℕ, ℤ, ◌≡◌, ◌<◌, pos, ◌+ℤ◌, ◌-ℤ◌, ◌*ℤ◌, ◌≤ℤ◌, ◌<ℤ◌, Bool, true, false, List, [], ◌∷◌, Option, Some, None, ap, sym, refl, subst, ◌∙◌}
use Rattle.std.specs.Prelude.{All, not, ◌&&◌, ◌||◌, int_le, if◌then◌else◌, filter_map}
use Rattle.std.specs.Int.{int_max}
use Rattle.std.specs.Ordering.{int_eq}
use Rattle.std.proofs.lemmas.Int.{ints}
use Rattle.std.proofs.Math.Bool.{and-false}
use Rattle.std.proofs.lemmas.List.Elements.{All-nil, All-head, All-tail, All-cons}
use Rattle.std.proofs.lemmas.Option.{none-some, same_Some}
use Rattle.std.specs.Option.{ForSome}
use Rattle.std.specs.List.{cons_option}
use Rattle.std.proofs.lemmas.Bool.{or_parts, not-false, not-true, false_from_ne_true, false≢true}
use Rattle.std.proofs.lemmas.Bool.Decides.{Decides-int_eq}
use Rattle.domains.specs.Arithmetic.{floor_div, floor_rem}
use Rattle.domains.specs.Span.{Ends}
use Rattle.domains.specs.declared.area.Area.{Area}
use Rattle.operators.specs.declared.operator.Relation.TheVariants.{AtMost, AtLeast, Equals}
use Rattle.operators.specs.Limits.{IsTest}
use Rattle.job.specs.Boxes.{cut_by, cut_by_all, if_some, box_of}
use Rattle.job.specs.Formula.{row, column, Test, compare, remainder}
use Rattle.job.specs.Values.{is_passed, all_passed}
use Rattle.column_phases.proofs.Products.{three_factors}
use Rattle.std.proofs.Math.IntN.{*ℤ_comm}
use Rattle.column_phases.specs.Phases.{column_of, first_from, last_to, phase_ends, phase_area, phase_box, IsDecided, fails, fails_any, left}
use Rattle.column_phases.proofs.Columns.{last_rises, first_rises, last_from, last_below, first_above, first_to, own, own_first, last_of_column, rem_of_column, none_between, min_rises, max_rises, rem_more, product_of}

-- ---- whether tests are passed

le_same : (a b c d : ℤ) → (a ≤ℤ b → c ≤ℤ d) → (c ≤ℤ d → a ≤ℤ b) → int_le a b ≡ int_le c d
le_same a b c d to back = by (int_le a b) refl (int_le c d) refl
  where
    by : (s : Bool) → int_le a b ≡ s → (t : Bool) → int_le c d ≡ t → int_le a b ≡ int_le c d
    by true e true f = e ∙ sym f
    by true e false f = let is = to (omega (arith, ints, e)) in absurd (omega (arith, ints, is, f))
    by false e true f = let is = back (omega (arith, ints, f)) in absurd (omega (arith, ints, is, e))
    by false e false f = e ∙ sym f

eq_same : (a b c d : ℤ) → (a ≡ b → c ≡ d) → (c ≡ d → a ≡ b) → int_eq a b ≡ int_eq c d
eq_same a b c d to back = by (int_eq a b) refl (int_eq c d) refl
  where
    by : (s : Bool) → int_eq a b ≡ s → (t : Bool) → int_eq c d ≡ t → int_eq a b ≡ int_eq c d
    by true e true f = e ∙ sym f
    by true e false f = absurd (false≢true (sym f ∙ (Decides-int_eq c d).1 (to ((Decides-int_eq a b).0 e))))
    by false e true f = absurd (false≢true (sym e ∙ (Decides-int_eq a b).1 (back ((Decides-int_eq c d).0 f))))
    by false e false f = e ∙ sym f

-- what is left of a test, at the number of a column
abbrev passes_left : Option Test → ℤ → ℤ → Bool
passes_left None r j = true
passes_left (Some t) r j = is_passed t r j

module _ (P p : ℕ) (some : 0 < P) where
  -- the remainder of a column of the phase, by a modulus of the period
  remainder_phase : (m : ℕ) (j : ℤ) → pos 0 <ℤ pos m → floor_rem (pos P) (pos m) ≡ pos 0 → floor_rem (column_of P p j) (pos m) ≡ floor_rem (pos p) (pos m)
  remainder_phase m j above none =
      let s = floor_div (pos P) (pos m) in
      let product = product_of (pos P) (pos m) above none in
      let all : column_of P p j ≡ s *ℤ j *ℤ pos m +ℤ pos p =
      ap (λ (z : ℤ). z *ℤ j +ℤ pos p) product
      ∙ ap (λ (z : ℤ). z +ℤ pos p) (three_factors s (pos m) j ∙ ap (λ (z : ℤ). s *ℤ z) (*ℤ_comm (pos m) j) ∙ sym (three_factors s j (pos m))) in
      ap (λ (z : ℤ). floor_rem z (pos m)) all ∙ rem_more (s *ℤ j) (pos p) (pos m) above

  whole_of : (bound : ℤ) → not (int_eq (floor_rem (bound -ℤ pos p) (pos P)) (pos 0)) ≡ false → floor_rem (bound -ℤ pos p) (pos P) ≡ pos 0
  whole_of bound h = (Decides-int_eq (floor_rem (bound -ℤ pos p) (pos P)) (pos 0)).0 (not-false _ h)

  left_passed : (t : Test) (r j : ℤ) → IsTest t → IsDecided P t → fails P p t ≡ false → passes_left (left P p t) r j ≡ is_passed t r (column_of P p j)
  left_passed (compare row relation bound) r j is decided holds = refl
  left_passed (compare column AtMost bound) r j is decided holds =
      le_same j (last_to P p bound) (column_of P p j) bound (last_below P p some bound j) (last_from P p some bound j)
  left_passed (compare column AtLeast bound) r j is decided holds =
      le_same (first_from P p bound) j bound (column_of P p j) (first_above P p some bound j) (first_to P p some bound j)
  left_passed (compare column Equals bound) r j is decided holds =
      let mine = own P p some bound (whole_of bound holds) in
      eq_same j (last_to P p bound) (column_of P p j) bound (λ e. ap (column_of P p) e ∙ mine)
      (λ e. sym (last_of_column P p some j) ∙ ap (last_to P p) e)
  left_passed (remainder row modulus rest) r j is decided holds = refl
  left_passed (remainder column modulus rest) r j is decided holds =
      sym (ap (λ (z : ℤ). int_eq z (pos rest)) (remainder_phase modulus j (omega (arith, ints, is.0)) decided) ∙ not-false _ holds)

  failed : (t : Test) (r j : ℤ) → IsTest t → IsDecided P t → fails P p t ≡ true → is_passed t r (column_of P p j) ≡ false
  failed (compare row relation bound) r j is decided e = absurd (false≢true e)
  failed (compare column AtMost bound) r j is decided e = absurd (false≢true e)
  failed (compare column AtLeast bound) r j is decided e = absurd (false≢true e)
  failed (compare column Equals bound) r j is decided e =
      false_from_ne_true (int_eq (column_of P p j) bound) (λ h. false≢true (sym (not-true _ e) ∙ (Decides-int_eq (floor_rem (bound -ℤ pos p) (pos P)) (pos 0)).1
      (ap (λ (z : ℤ). floor_rem (z -ℤ pos p) (pos P)) (sym ((Decides-int_eq (column_of P p j) bound).0 h)) ∙ rem_of_column P p some j)))
  failed (remainder row modulus rest) r j is decided e = absurd (false≢true e)
  failed (remainder column modulus rest) r j is decided e =
      ap (λ (z : ℤ). int_eq z (pos rest)) (remainder_phase modulus j (omega (arith, ints, is.0)) decided) ∙ not-true _ e

  -- ---- all tests

  kept_passed : (o : Option Test) (us : List Test) (r j : ℤ) → all_passed (cons_option o us) r j ≡ (passes_left o r j && all_passed us r j)
  kept_passed None us r j = refl
  kept_passed (Some u) us r j = refl

  pub all_left_passed : (ts : List Test) (r j : ℤ) → All IsTest ts → All (IsDecided P) ts → fails_any P p ts ≡ false
      → all_passed (filter_map (left P p) ts) r j ≡ all_passed ts r (column_of P p j)
  all_left_passed [] r j are decided holds = refl
  all_left_passed (t ∷ ts) r j are decided holds =
      let parts = or_parts (fails P p t) (fails_any P p ts) holds in
      let first = left_passed t r j (All-head IsTest t ts are) (All-head (IsDecided P) t ts decided) parts.0 in
      let rest = all_left_passed ts r j (All-tail IsTest t ts are) (All-tail (IsDecided P) t ts decided) parts.1 in
      kept_passed (left P p t) (filter_map (left P p) ts) r j ∙ (λ i. first i && rest i)

  pub some_failed : (ts : List Test) (r j : ℤ) → All IsTest ts → All (IsDecided P) ts → fails_any P p ts ≡ true
      → all_passed ts r (column_of P p j) ≡ false
  some_failed [] r j are decided e = absurd (false≢true e)
  some_failed (t ∷ ts) r j are decided e =
      by (fails P p t) refl (some_failed ts r j (All-tail IsTest t ts are) (All-tail (IsDecided P) t ts decided))
    where
      by : (b : Bool) → fails P p t ≡ b → (fails_any P p ts ≡ true → all_passed ts r (column_of P p j) ≡ false)
          → all_passed (t ∷ ts) r (column_of P p j) ≡ false
      by true f later =
          ap (λ (b : Bool). b && all_passed ts r (column_of P p j)) (failed t r j (All-head IsTest t ts are) (All-head (IsDecided P) t ts decided) f)
      by false f later =
          let rest : fails_any P p ts ≡ true = sym (ap (λ (b : Bool). b || fails_any P p ts) f) ∙ e in
          ap (λ (b : Bool). is_passed t r (column_of P p j) && b) (later rest) ∙ and-false (is_passed t r (column_of P p j))

  -- what is left of tests are tests
  left_test : (t : Test) → IsTest t → ForSome (left P p t) IsTest
  left_test (compare row relation bound) is = λ u e. subst IsTest (same_Some _ _ e) tt
  left_test (compare column AtMost bound) is = λ u e. subst IsTest (same_Some _ _ e) tt
  left_test (compare column AtLeast bound) is = λ u e. subst IsTest (same_Some _ _ e) tt
  left_test (compare column Equals bound) is = λ u e. subst IsTest (same_Some _ _ e) tt
  left_test (remainder row modulus rest) is = λ u e. subst IsTest (same_Some _ _ e) is
  left_test (remainder column modulus rest) is = λ u e. absurd (none-some u e)

  pub left_tests : (ts : List Test) → All IsTest ts → All IsTest (filter_map (left P p) ts)
  left_tests [] are = All-nil IsTest
  left_tests (t ∷ ts) are = kept (left P p t) (left_test t (All-head IsTest t ts are)) (left_tests ts (All-tail IsTest t ts are))
    where
      kept : (o : Option Test) → ForSome o IsTest → All IsTest (filter_map (left P p) ts) → All IsTest (cons_option o (filter_map (left P p) ts))
      kept None is rest = rest
      kept (Some u) is rest = All-cons IsTest u (filter_map (left P p) ts) (is u refl) rest

  -- ---- boxes

  abbrev cut_left : Option Test → Area → Area
  cut_left None a = a
  cut_left (Some t) a = cut_by t a

  left_cut : (t : Test) (a : Area) → fails P p t ≡ false → cut_left (left P p t) (phase_area P p a) ≡ phase_area P p (cut_by t a)
  left_cut (compare row relation bound) a holds = refl
  left_cut (compare column AtMost bound) a holds =
      ap (λ (z : ℤ). record { rows = a.rows; cols = record { lo = first_from P p a.cols.lo; hi = z } })
      (sym (min_rises (last_to P p) (last_rises P p some) a.cols.hi bound))
  left_cut (compare column AtLeast bound) a holds =
      ap (λ (z : ℤ). record { rows = a.rows; cols = record { lo = z; hi = last_to P p a.cols.hi } })
      (sym (max_rises (first_from P p) (first_rises P p some) a.cols.lo bound))
  left_cut (compare column Equals bound) a holds =
      let whole = whole_of bound holds in
      λ i. record {
        rows = a.rows;
        cols = record {
          lo = (ap (int_max (first_from P p a.cols.lo)) (sym (own_first P p some bound whole)) ∙ sym (max_rises (first_from P p) (first_rises P p some) a.cols.lo bound)) i;
          hi = sym (min_rises (last_to P p) (last_rises P p some) a.cols.hi bound) i;
        };
      }
  left_cut (remainder row modulus rest) a holds = refl
  left_cut (remainder column modulus rest) a holds = refl

  kept_cut : (o : Option Test) (us : List Test) (a : Area) → cut_by_all (cons_option o us) a ≡ cut_by_all us (cut_left o a)
  kept_cut None us a = refl
  kept_cut (Some u) us a = refl

  all_left_cut : (ts : List Test) (a : Area) → fails_any P p ts ≡ false
      → cut_by_all (filter_map (left P p) ts) (phase_area P p a) ≡ phase_area P p (cut_by_all ts a)
  all_left_cut [] a holds = refl
  all_left_cut (t ∷ ts) a holds =
      let parts = or_parts (fails P p t) (fails_any P p ts) holds in
      kept_cut (left P p t) (filter_map (left P p) ts) (phase_area P p a)
      ∙ ap (cut_by_all (filter_map (left P p) ts)) (left_cut t a parts.0) ∙ all_left_cut ts (cut_by t a) parts.1

  -- an area without a point has none in a phase
  box_if_some : (a : Area) → if_some (phase_area P p a) ≡ phase_box P p (if_some a)
  box_if_some a = by (int_le a.rows.lo a.rows.hi) refl (int_le a.cols.lo a.cols.hi) refl
    where
      by : (s : Bool) → int_le a.rows.lo a.rows.hi ≡ s → (t : Bool) → int_le a.cols.lo a.cols.hi ≡ t
          → if_some (phase_area P p a) ≡ phase_box P p (if s && t then Some a else None)
      by true e true f =
          ap
          (λ (b : Bool).
          if b && int_le (first_from P p a.cols.lo) (last_to P p a.cols.hi)
          then Some (phase_area P p a)
          else None)
          e
      by true e false f =
          let apart : int_le (first_from P p a.cols.lo) (last_to P p a.cols.hi) ≡ false = none_between P p some a.cols.lo a.cols.hi f in
          ap (λ (b : Bool). if int_le a.rows.lo a.rows.hi && b then Some (phase_area P p a) else None) apart
          ∙ ap (λ (b : Bool). if b then Some (phase_area P p a) else None) (and-false (int_le a.rows.lo a.rows.hi))
      by false e t f = ap (λ (b : Bool). if b && int_le (first_from P p a.cols.lo) (last_to P p a.cols.hi) then Some (phase_area P p a) else None) e

-- the box of what is left of tests, in a phase of a domain
pub phase_box_of : (P p : ℕ) → 0 < P → (domain : Area) (ts : List Test) → fails_any P p ts ≡ false
    → phase_box P p (box_of domain ts) ≡ box_of (phase_area P p domain) (filter_map (left P p) ts)
phase_box_of P p some domain ts holds =
    sym (ap if_some (all_left_cut P p some ts domain holds) ∙ box_if_some P p some (cut_by_all ts domain))

-- the box of an area whose columns in the phase are these
pub phase_box_some : (P p : ℕ) (a : Area) (s : Ends) → s ≡ phase_ends P p a.cols → int_le s.lo s.hi ≡ true
    → Some (record { rows = a.rows; cols = s }) ≡ phase_box P p (Some a)
phase_box_some P p a s e h =
    ap (λ (t : Ends). Some (record { rows = a.rows; cols = t })) e
    ∙ sym (ap (λ (b : Bool). if b then Some (phase_area P p a) else None) (sym (λ i. int_le (e i).lo (e i).hi) ∙ h))
