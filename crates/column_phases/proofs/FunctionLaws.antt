-- Laws of functions at the columns of a phase.
use Rattle.std.proofs.Common.{arith, ℕ, ℤ, ◌≡◌, ◌-◌, ◌<◌, ◌≤◌, pos, ◌+ℤ◌, Bool, true, false, List, [], ◌∷◌, Option, Some, None, map, ap, sym, refl, subst, ◌∙◌}
use Rattle.std.specs.Prelude.{All, if◌then◌else◌, int_le}
use Rattle.std.specs.List.{cons_option}
use Rattle.std.specs.Option.{ForSome, option_map, option_map_or}
use Rattle.std.proofs.lemmas.List.Elements.{All-nil, All-head, All-tail, All-cons, All-append, All-map}
use Rattle.std.proofs.lemmas.Option.{none-some, same_Some}
use Rattle.domains.specs.Area.{HoldsPoint}
use Rattle.domains.specs.declared.area.Area.{Area}
use Rattle.job.specs.Boxes.{AreBoxed, box_of}
use Rattle.job.specs.Formula.{Formula}
use Rattle.job.specs.Pipeline.{JobCase, function}
use Rattle.job.specs.Reads.{EachRead, BodyReads, CaseReads, formulas_of, other_formula}
use Rattle.job.specs.Values.{Valuation, formula_value, all_passed, chosen}
use Rattle.job.specs.WellFormed.{IsFormula, IsTest, InDomainRange}
use Rattle.job.proofs.Agreeing.{All-left, All-right}
use Rattle.job.proofs.Steps.{All-from_map, other_each}
use Rattle.row_loops.specs.Rows.{EachPlace}
use Rattle.narrow_eval.specs.NarrowCases.{IsNarrowComputable}
use Rattle.tile_eval.specs.Cases.{function_value, IsComputable}
use Rattle.tile_eval.specs.Reading.{HasRoom, HasFunctionRoom}
use Rattle.tile_eval.proofs.Gathering.{room_less}
use Rattle.value_ranges.specs.Narrow.{IsNarrow, IsNarrowFunction}
use Rattle.column_phases.specs.Phases.{column_of, phase_area, phase_box, IsDecided, fails_any, Steps, phase_formula, phase_case, phase_cases, Alternates}
use Rattle.column_phases.proofs.Columns.{HoldsPoint-phase}
use Rattle.column_phases.proofs.TestLaws.{all_left_passed, some_failed, left_tests, phase_box_of}
use Rattle.column_phases.proofs.FormulaLaws.{value_phase, formula_phase, reads_phase, narrow_phase, room_phase}

-- ---- what is made of each case

-- what is known of a case and of the other formula
pub record IsKnownCase (P p : ℕ) (q : JobCase) : Type 0 where
  pub tests : All IsTest q.tests
  pub decided : All (IsDecided P) q.tests
  pub formula : IsFormula q.formula
  pub steps : Steps P p q.formula

pub record IsKnown (P p : ℕ) (qs : List JobCase) (o : Option Formula) : Type 0 where
  pub cases : All (IsKnownCase P p) qs
  pub other : ForSome o (λ f. IsFormula f × Steps P p f)

pub known : (P p : ℕ) (qs : List JobCase) (o : Option Formula) → All (λ q. All IsTest q.tests) qs → All IsFormula (formulas_of (function qs o))
    → Alternates P p qs o → IsKnown P p qs o
known P p qs o tests formulas alternates =
    let own = All-from_map IsFormula (λ q. q.formula) qs (All-left IsFormula (map (λ q. q.formula) qs) (other_formula o) formulas) in
    let others = other_each IsFormula o (All-right IsFormula (map (λ q. q.formula) qs) (other_formula o) formulas) in
    record {
      cases = λ i d h. record {
        tests = tests i d h;
        decided = alternates.tests i d h;
        formula = own i d h;
        steps = alternates.formulas i d h;
      };
      other = λ f e. (others f e, alternates.other f e);
    }

module _ (P p : ℕ) where
  made_if : (Q : JobCase → Type 0) (b : Bool) (q : JobCase) → (b ≡ false → Q q) → (ys : List JobCase) → All Q ys
      → All Q (cons_option (if b then None else Some q) ys)
  made_if Q true q f ys rest = rest
  made_if Q false q f ys rest = All-cons Q q ys (f refl) rest

  -- what holds of what is made of each known case holds of all that are made
  pub each_made : (K Q : JobCase → Type 0) → ((q : JobCase) → K q → fails_any P p q.tests ≡ false → Q (phase_case P p q)) → (qs : List JobCase)
      → All K qs → All Q (phase_cases P p qs)
  each_made K Q f [] are = All-nil Q
  each_made K Q f (q ∷ qs) are =
      made_if Q (fails_any P p q.tests) (phase_case P p q) (f q (All-head K q qs are)) (phase_cases P p qs)
      (each_made K Q f qs (All-tail K q qs are))

  other_made : (K Q : Formula → Type 0) → ((f : Formula) → K f → Q (phase_formula P p f)) → (o : Option Formula) → ForSome o K
      → ForSome (option_map (phase_formula P p) o) Q
  other_made K Q f None are = λ g e. absurd (none-some g e)
  other_made K Q f (Some h) are = λ g e. subst Q (same_Some (phase_formula P p h) g e) (f h (are h refl))

-- ---- values

module _ (P p : ℕ) (some : 0 < P) (env : Valuation) (r j : ℤ) where
  abbrev value_of_chosen : Option Formula → ℤ → ℤ
  value_of_chosen o c = option_map_or (λ f. formula_value env f r c) o (pos 0)

  other_value : (o : Option Formula) → ForSome o (λ f. IsFormula f × Steps P p f)
      → value_of_chosen (option_map (phase_formula P p) o) j ≡ value_of_chosen o (column_of P p j)
  other_value None is = refl
  other_value (Some f) is = let h = is f refl in value_phase P p env f r j h.0 h.1

  -- a case more
  module _ (q : JobCase) (qs : List JobCase) (o : Option Formula) (first : IsKnownCase P p q)
      (rest : function_value env (phase_cases P p qs) (option_map (phase_formula P p) o) r j ≡ function_value env qs o r (column_of P p j)) where
    abbrev others : List JobCase
    others = phase_cases P p qs

    abbrev other : Option Formula
    other = option_map (phase_formula P p) o

    abbrev new_value : Bool → ℤ
    new_value b = value_of_chosen (if b then Some (phase_formula P p q.formula) else chosen others other r j) j

    abbrev old_value : Bool → ℤ
    old_value b = value_of_chosen (if b then Some q.formula else chosen qs o r (column_of P p j)) (column_of P p j)

    same : (b : Bool) → new_value b ≡ old_value b
    same true = value_phase P p env q.formula r j first.formula first.steps
    same false = rest

    case_more : (b : Bool) → fails_any P p q.tests ≡ b
        → function_value env (cons_option (if b then None else Some (phase_case P p q)) others) other r j ≡ old_value (all_passed q.tests r (column_of P p j))
    case_more true e = rest ∙ sym (ap old_value (some_failed P p some q.tests r j first.tests first.decided e))
    case_more false e =
        ap new_value (all_left_passed P p some q.tests r j first.tests first.decided e) ∙ same (all_passed q.tests r (column_of P p j))

  pub function_phase : (qs : List JobCase) (o : Option Formula) → IsKnown P p qs o
      → function_value env (phase_cases P p qs) (option_map (phase_formula P p) o) r j ≡ function_value env qs o r (column_of P p j)
  function_phase [] o is = other_value o is.other
  function_phase (q ∷ qs) o is =
      case_more q qs o (All-head (IsKnownCase P p) q qs is.cases)
      (function_phase qs o (record { cases = All-tail (IsKnownCase P p) q qs is.cases; other = is.other })) (fails_any P p q.tests) refl

-- ---- boxes

-- what holds of the columns in a box holds of their numbers in its phase
box_phase : (P p : ℕ) → 0 < P → (X Y : Type 0) (r j : ℤ) (o : Option Area) → (X → Y) → ForSome o (λ box. HoldsPoint box r (column_of P p j) → X)
    → ForSome (phase_box P p o) (λ box. HoldsPoint box r j → Y)
box_phase P p some X Y r j None f h = λ box e. absurd (none-some box e)
box_phase P p some X Y r j (Some a) f h = by (int_le (phase_area P p a).cols.lo (phase_area P p a).cols.hi)
  where
    by : (b : Bool) → ForSome (if b then Some (phase_area P p a) else None) (λ box. HoldsPoint box r j → Y)
    by true = λ box e inside.
        f (h a refl ((HoldsPoint-phase P p some a r j).0 (subst (λ (x : Area). HoldsPoint x r j) (sym (same_Some (phase_area P p a) box e)) inside)))
    by false = λ box e. absurd (none-some box e)

module _ (P p : ℕ) (some : 0 < P) (qs : List JobCase) (o : Option Formula) (is : IsKnown P p qs o) where
  pub tests_made : All (λ q. All IsTest q.tests) (phase_cases P p qs)
  tests_made = each_made P p (IsKnownCase P p) (λ q. All IsTest q.tests) (λ q k e. left_tests P p some q.tests k.tests) qs is.cases

  pub formulas_made : All IsFormula (formulas_of (function (phase_cases P p qs) (option_map (phase_formula P p) o)))
  formulas_made =
      All-append IsFormula (map (λ q. q.formula) (phase_cases P p qs)) (other_formula (option_map (phase_formula P p) o))
      (All-map IsFormula (λ q. q.formula) (phase_cases P p qs)
      (each_made P p (IsKnownCase P p) (λ q. IsFormula q.formula) (λ q k e. formula_phase P p q.formula k.formula k.steps) qs is.cases))
      (listed (option_map (phase_formula P p) o)
      (other_made P p (λ f. IsFormula f × Steps P p f) IsFormula (λ f k. formula_phase P p f k.0 k.1) o is.other))
    where
      listed : (u : Option Formula) → ForSome u IsFormula → All IsFormula (other_formula u)
      listed None h = All-nil IsFormula
      listed (Some f) h = All-cons IsFormula f [] (h f refl) (All-nil IsFormula)

  pub boxes_made : (domain : Area) → AreBoxed domain (function qs o)
      → AreBoxed (phase_area P p domain) (function (phase_cases P p qs) (option_map (phase_formula P p) o))
  boxes_made domain boxed =
      each_made P p (λ q. q.box ≡ box_of domain q.tests) (λ q. q.box ≡ box_of (phase_area P p domain) q.tests)
      (λ q k e. ap (phase_box P p) k ∙ phase_box_of P p some domain q.tests e) qs boxed

  abbrev KnownWith : (JobCase → Type 0) → JobCase → Type 0
  KnownWith K q = IsKnownCase P p q × K q

  with_known : (K : JobCase → Type 0) → All K qs → All (KnownWith K) qs
  with_known K are = λ i d h. (is.cases i d h, are i d h)

  pub reads_made : (has : ℕ → ℤ → ℤ → Type 0) (r j : ℤ) → BodyReads has (function qs o) r (column_of P p j)
      → BodyReads has (function (phase_cases P p qs) (option_map (phase_formula P p) o)) r j
  reads_made has r j reads = (
    each_made P p (KnownWith (λ q. CaseReads has q r (column_of P p j))) (λ q. CaseReads has q r j)
        (λ q k e. box_phase P p some (EachRead has q.formula r (column_of P p j)) (EachRead has (phase_formula P p q.formula) r j) r j q.box
        (reads_phase P p has r j q.formula k.0.formula k.0.steps) k.1) qs (with_known (λ q. CaseReads has q r (column_of P p j)) reads.0),
    other_made P p (λ f. (IsFormula f × Steps P p f) × EachRead has f r (column_of P p j)) (λ f. EachRead has f r j)
        (λ f k. reads_phase P p has r j f k.0.0 k.0.1 k.1) o (λ f e. (is.other f e, reads.1 f e)),
  )

  pub narrow_made : (env : Valuation) (r j : ℤ) → IsNarrowFunction env qs o r (column_of P p j)
      → IsNarrowFunction env (phase_cases P p qs) (option_map (phase_formula P p) o) r j
  narrow_made env r j narrow = record {
    boxes =
        each_made P p (KnownWith (λ q. ForSome q.box (λ box. HoldsPoint box r (column_of P p j) → IsNarrow env q.formula r (column_of P p j))))
        (λ q. ForSome q.box (λ box. HoldsPoint box r j → IsNarrow env q.formula r j))
        (λ q k e. box_phase P p some (IsNarrow env q.formula r (column_of P p j)) (IsNarrow env (phase_formula P p q.formula) r j) r j q.box
        (narrow_phase P p env q.formula r j k.0.formula k.0.steps) k.1) qs
        (with_known (λ q. ForSome q.box (λ box. HoldsPoint box r (column_of P p j) → IsNarrow env q.formula r (column_of P p j))) narrow.boxes);
    other =
        other_made P p (λ f. (IsFormula f × Steps P p f) × IsNarrow env f r (column_of P p j)) (λ f. IsNarrow env f r j)
        (λ f k. narrow_phase P p env f r j k.0.0 k.0.1 k.1) o (λ f e. (is.other f e, narrow.other f e));
  }

  pub room_made : (n m room : ℕ) → m ≤ n → HasFunctionRoom n room qs o
      → HasFunctionRoom m room (phase_cases P p qs) (option_map (phase_formula P p) o)
  room_made n m room less h = record {
    row = let enough = h.row in omega (arith, enough);
    operands =
        each_made P p (λ q. HasRoom q.formula n (room - n)) (λ q. HasRoom q.formula m (room - m))
        (λ q k e. room_phase P p q.formula m (room - m) (room_less q.formula n m (room - n) (room - m) less (omega arith) k)) qs h.operands;
    other =
        other_made P p (λ f. HasRoom f n room) (λ f. HasRoom f m room)
        (λ f k. room_phase P p f m room (room_less f n m room room less (omega arith) k)) o h.other;
  }

-- ---- functions along a row

-- a phase of a function is computable in 16 bits at columns whose own columns are among those of the function
pub narrow_of_phase : (P p : ℕ) → 0 < P → (has : ℕ → ℤ → ℤ → Type 0) (env : Valuation) (r c : ℤ) (n room : ℕ) (qs : List JobCase)
    (o : Option Formula) → IsNarrowComputable has env r c n room qs o → Alternates P p qs o → (j : ℤ) (m : ℕ) → m ≤ n
    → EachPlace m (λ k. (i : ℕ) × (i < n) × (c +ℤ pos i ≡ column_of P p (j +ℤ pos k)))
    → IsNarrowComputable has env r j m room (phase_cases P p qs) (option_map (phase_formula P p) o)
narrow_of_phase P p some has env r c n room qs o is alternates j m less own =
    let all = known P p qs o is.tests is.formulas alternates in
    record {
      tests = tests_made P p some qs o all;
      formulas = formulas_made P p some qs o all;
      domain = phase_area P p is.domain;
      inside = λ k l.
          let it = own k l in
          (HoldsPoint-phase P p some is.domain r (j +ℤ pos k)).1 (subst (λ (z : ℤ). HoldsPoint is.domain r z) it.2 (is.inside it.0 it.1));
      boxes = boxes_made P p some qs o all is.domain is.boxes;
      reads = λ k l.
          let it = own k l in
          reads_made P p some qs o all has r (j +ℤ pos k) (subst (λ (z : ℤ). BodyReads has (function qs o) r z) it.2 (is.reads it.0 it.1));
      narrow = λ k l.
          let it = own k l in
          narrow_made P p some qs o all env r (j +ℤ pos k) (subst (λ (z : ℤ). IsNarrowFunction env qs o r z) it.2 (is.narrow it.0 it.1));
      capacity = room_made P p some qs o all n m room less is.capacity;
    }

-- and on an area
pub computable_of_phase : (P p : ℕ) → 0 < P → (has : ℕ → ℤ → ℤ → Type 0) (area own : Area) (qs : List JobCase) (o : Option Formula)
    → IsComputable has area qs o → Alternates P p qs o → InDomainRange own.rows → InDomainRange own.cols
    → ((r j : ℤ) → HoldsPoint own r j → HoldsPoint area r (column_of P p j))
    → IsComputable has own (phase_cases P p qs) (option_map (phase_formula P p) o)
computable_of_phase P p some has area own qs o is alternates rows cols inside =
    let all = known P p qs o is.tests is.formulas alternates in
    record {
      rows = rows;
      cols = cols;
      tests = tests_made P p some qs o all;
      formulas = formulas_made P p some qs o all;
      boxes = (
        phase_area P p is.boxes.0,
        λ r j h. (HoldsPoint-phase P p some is.boxes.0 r j).1 (is.boxes.1 r (column_of P p j) (inside r j h)),
        boxes_made P p some qs o all is.boxes.0 is.boxes.2,
      );
      reads = λ r j h. reads_made P p some qs o all has r j (is.reads r (column_of P p j) (inside r j h));
    }
