-- From what is found of functions to the values of stages.
use Rattle.std.proofs.Common.{ℕ, zero, suc, ℤ, pos, ◌≡◌, ◌≤◌, ◌<◌, ◌+◌, ◌*◌, ◌⊎◌, inl, inr, List, [], ◌∷◌, length, map, FitsSigned, w32, Bool, true, false, arith, sym, subst, ◌∙◌, ap, refl}
use Rattle.std.proofs.Common.{Option, Some, None, set}
use Rattle.std.specs.Prelude.{All, slice_get, slice_index, slice_index_or, replicate, unsigned_abs, if◌then◌else◌}
use Rattle.std.specs.Option.{option_map_or, unwrap_or, ForSome, IfNone}
use Rattle.std.proofs.lemmas.Bool.{cases_eq}
use Rattle.std.proofs.lemmas.Int.{ints}
use Rattle.std.proofs.lemmas.Option.{get_or_from_slice_get, unwrap_or-slice_get, same_Some, none-some}
use Rattle.std.proofs.lemmas.List.Elements.{All-head, All-tail, All-weaker}
use Rattle.domains.specs.Area.{HoldsPoint}
use Rattle.domains.specs.declared.area.Area.{Area}
use Rattle.domains.proofs.Places.{slice_get-set_same, slice_get-set_other}
use Rattle.netpbm.specs.Image.{Image, IsPlane, IsImage}
use Rattle.job.specs.Formula.{Formula}
use Rattle.job.specs.Pipeline.{JobCase, Body, plane, function, Stage, Pipeline}
use Rattle.job.specs.Values.{Valuation, formula_value, all_passed, chosen, sample_at, body_value, value}
use Rattle.job.specs.Reads.{Read, point, window, EachTaken, CaseReads, BodyReads, other_formula, formulas_of}
use Rattle.job.specs.Boxes.{box_of, AreBoxed}
use Rattle.job.specs.WellFormed.{IsFormula, IsReadable, IsValued, IsStage, IsJob}
use Rattle.job.proofs.Agreeing.{All-left, All-right}
use Rattle.job.proofs.BoxLaws.{passed_in_box}
use Rattle.job.proofs.Solving.{BodyReads-both, near_fits, ranked_is, value_solves, value_fits}
use Rattle.job.proofs.Steps.{All-from_map, All-both, other_each}
use Rattle.value_ranges.specs.declared.value_range.ValueRange.{ValueRange}
use Rattle.value_ranges.specs.declared.formulas.FoundRange.{FoundRange}
use Rattle.value_ranges.specs.Narrow.{IsNarrow, IsNarrowFunction}
use Rattle.value_ranges.specs.Ranges.{InRange, AreRanges, IsRangeOf, IsNarrowBody, IsNarrowStage, full_range, range_at}
use Rattle.value_ranges.specs.inside.Found.{IsRanged, IsRangedAt, IsFoundCase, IsFoundFunction, AreKnown}
use Rattle.value_ranges.proofs.Ends.{in_full}

-- ---- samples

index_bounded : (most : ℕ) (xs : List ℕ) (k : ℕ) → All (λ x. x ≤ most) xs → slice_index xs k ≤ most
index_bounded most [] k each = omega arith
index_bounded most (x ∷ xs) zero each = All-head (λ x. x ≤ most) x xs each
index_bounded most (x ∷ xs) (suc k) each = index_bounded most xs k (All-tail (λ x. x ≤ most) x xs each)

plane_bounded : (area most : ℕ) (planes : List (List ℕ)) (n k : ℕ) → All (IsPlane area most) planes
    → slice_index (slice_index_or planes n []) k ≤ most
plane_bounded area most [] n k each = omega arith
plane_bounded area most (xs ∷ planes) zero k each = index_bounded most xs k (All-head (IsPlane area most) xs planes each).bounded
plane_bounded area most (xs ∷ planes) (suc n) k each = plane_bounded area most planes n k (All-tail (IsPlane area most) xs planes each)

small_in : (range : ValueRange) (n most : ℕ) → n ≤ most → range.lo ≡ pos 0 → range.hi ≡ pos most → InRange range (pos n)
small_in range n most h low high = record { low = omega (arith, ints); high = omega (arith, ints) }

sample_in : (range : ValueRange) (picture : Image) (n : ℕ) (r c : ℤ) → IsImage picture → range.lo ≡ pos 0 → range.hi ≡ pos picture.max
    → InRange range (sample_at picture n r c)
sample_in range picture n r c is low high =
    small_in range _ picture.max (plane_bounded (picture.rows * picture.cols) picture.max picture.planes n
    (unsigned_abs r * picture.cols + unsigned_abs c) is.planes) low high

-- ---- functions

module _ (ranges : List ValueRange) (env : Valuation) (r c : ℤ) (row_fits : FitsSigned w32 r) (column_fits : FitsSigned w32 c)
    (found : FoundRange) where
  -- what a case needs of its formula and of what it reads
  record IsReadCase (p : JobCase) : Type 0 where
    formula : IsFormula p.formula
    found_of : IsFoundCase ranges p found
    reads : CaseReads (IsRanged ranges env) p r c

  case_at : (p : JobCase) (box : Area) → IsReadCase p → p.box ≡ Some box → HoldsPoint box r c → IsRangedAt ranges env p.formula r c
  case_at p box is there inside = record { formula = is.formula; row = row_fits; column = column_fits; reads = is.reads box there inside }

  abbrev pub InWhere : JobCase → Type 0
  InWhere p = all_passed p.tests r c ≡ true → InRange found.range (formula_value env p.formula r c)

  abbrev pub ChosenIn : Option Formula → Type 0
  ChosenIn o = InRange found.range (option_map_or (λ f. formula_value env f r c) o (pos 0))

  some_in : (o : Option Formula) → ForSome o (λ f. InRange found.range (formula_value env f r c)) → IfNone o (InRange found.range (pos 0))
      → ChosenIn o
  some_in None is none = none
  some_in (Some f) is none = is f refl

  first_in : (passed : Bool) (f : Formula) (o : Option Formula) → (passed ≡ true → InRange found.range (formula_value env f r c))
      → ChosenIn o → ChosenIn (if passed then Some f else o)
  first_in true f o here others = here refl
  first_in false f o here others = others

  chosen_in : (ps : List JobCase) (otherwise : Option Formula) → All InWhere ps → ChosenIn otherwise → ChosenIn (chosen ps otherwise r c)
  chosen_in [] otherwise each other = other
  chosen_in (p ∷ ps) otherwise each other =
      first_in (all_passed p.tests r c) p.formula (chosen ps otherwise r c) (All-head InWhere p ps each)
      (chosen_in ps otherwise (All-tail InWhere p ps each) other)

  module _ (cases : List JobCase) (otherwise : Option Formula) (is : IsFoundFunction ranges cases otherwise found)
      (formulas : All IsFormula (formulas_of (function cases otherwise)))
      (reads : BodyReads (IsRanged ranges env) (function cases otherwise) r c) where
    read_cases : All IsReadCase cases
    read_cases =
        let front : All (λ p. IsFormula p.formula) cases =
        All-from_map IsFormula (λ p. p.formula) cases (All-left IsFormula (map (λ p. p.formula) cases) (other_formula otherwise) formulas) in
        All-both (λ p. IsFormula p.formula × IsFoundCase ranges p found) (λ p. CaseReads (IsRanged ranges env) p r c) IsReadCase
        (λ p both taken. record { formula = both.0; found_of = both.1; reads = taken })
        cases
        (All-both (λ p. IsFormula p.formula) (λ p. IsFoundCase ranges p found) (λ p. IsFormula p.formula × IsFoundCase ranges p found)
        (λ p a b. (a, b)) cases front is.each)
        reads.0

    other_at : (f : Formula) → otherwise ≡ Some f → IsRangedAt ranges env f r c
    other_at f there = record {
      formula = other_each IsFormula otherwise (All-right IsFormula (map (λ p. p.formula) cases) (other_formula otherwise) formulas) f there;
      row = row_fits;
      column = column_fits;
      reads = reads.1 f there;
    }

    pub function_in : (domain : Area) → AreBoxed domain (function cases otherwise) → HoldsPoint domain r c
        → ChosenIn (chosen cases otherwise r c)
    function_in domain boxed inside =
        chosen_in cases otherwise
        (All-both (λ p. p.box ≡ box_of domain p.tests) IsReadCase InWhere
        (λ p box one passed. let there = passed_in_box domain p.tests r c inside passed in
        one.found_of.formula.value env r c (case_at p there.0 one (box ∙ there.1) there.2))
        cases boxed read_cases)
        (some_in otherwise (λ f there. (is.other.formula f there).value env r c (other_at f there)) is.other.none)

    pub function_narrow : found.narrow ≡ true → IsNarrowFunction env cases otherwise r c
    function_narrow e = record {
      boxes = All-weaker IsReadCase (λ p. ForSome p.box (λ box. HoldsPoint box r c → IsNarrow env p.formula r c))
          (λ p one. λ box there inside. one.found_of.formula.narrow e env r c (case_at p box one there inside)) cases read_cases;
      other = λ f there. (is.other.formula f there).narrow e env r c (other_at f there);
    }

-- ---- stages

module _ (job : Pipeline) (h : IsJob job) (ranges : List ValueRange) (right : AreRanges job ranges) where
  read_ranged : (g : ℕ) (r c : ℤ) → IsReadable job.stages g r c → IsRanged ranges (value job) g r c
  read_ranged g r c x = record { ranged = by (slice_get ranges g) refl; fits = value_fits job h g r c x }
    where
      by : (o : Option ValueRange) → slice_get ranges g ≡ o → InRange (range_at ranges g) (value job g r c)
      by None is =
          in_full (range_at ranges g) (value job g r c)
          (sym (unwrap_or-slice_get ranges g full_range) ∙ ap (λ (o : Option ValueRange). unwrap_or o full_range) is)
          (value_fits job h g r c x)
      by (Some range) is =
          subst (λ (y : ValueRange). InRange y (value job g r c)) (sym (get_or_from_slice_get ranges g range full_range is))
          (right g range x.stage is x.there x.valued r c x.within)

  taken_ranged : (r c : ℤ) (x : Read) → EachTaken (IsReadable job.stages) x r c → EachTaken (IsRanged ranges (value job)) x r c
  taken_ranged r c (point g i j) there = read_ranged g _ _ there
  taken_ranged r c (window g kernel) there = λ a b la lb. read_ranged g _ _ (there a b la lb)

  body_ranged : (s : Stage) → IsStage job s → (r c : ℤ) → HoldsPoint s.domain r c → BodyReads (IsRanged ranges (value job)) s.body r c
  body_ranged s is r c inside =
      BodyReads-both (IsReadable job.stages) (IsRanged ranges (value job)) (λ x. Unit {0}) s.body r c (λ x _ there. taken_ranged r c x there)
      (λ k d l. tt) (is.reads r c inside)

  module _ (g : ℕ) (s : Stage) (there : slice_get job.stages g ≡ Some s) where
    stage_is : IsStage job s
    stage_is = h.stages g s there

    -- what is computed at each point is the value there
    pub range_by : (range : ValueRange) → IsValued s.body
        → ((r c : ℤ) → HoldsPoint s.domain r c → InRange range (body_value job.picture (value job) s.body r c)) → IsRangeOf job g range
    range_by range valued values t is _ r c inside =
        let same : s ≡ t = same_Some s t (sym there ∙ is) in
        let here : HoldsPoint s.domain r c = subst (λ (u : Stage). HoldsPoint u.domain r c) (sym same) inside in
        subst (InRange range) (sym (value_solves job (ranked_is job h) g s there valued r c here)) (values r c here)

    module _ (cases : List JobCase) (otherwise : Option Formula) (body : s.body ≡ function cases otherwise) (found : FoundRange)
        (found_of : IsFoundFunction ranges cases otherwise found) where
      formulas : All IsFormula (formulas_of (function cases otherwise))
      formulas = subst (λ (b : Body). All IsFormula (formulas_of b)) body stage_is.formulas

      reads : (r c : ℤ) → HoldsPoint s.domain r c → BodyReads (IsRanged ranges (value job)) (function cases otherwise) r c
      reads r c inside = subst (λ (b : Body). BodyReads (IsRanged ranges (value job)) b r c) body (body_ranged s stage_is r c inside)

      pub function_range : IsRangeOf job g found.range
      function_range =
          range_by found.range (subst IsValued (sym body) tt) (λ r c inside.
          subst (λ (b : Body). InRange found.range (body_value job.picture (value job) b r c)) (sym body)
          (function_in ranges (value job) r c (near_fits s.domain.rows r stage_is.rows inside.0) (near_fits s.domain.cols c stage_is.cols inside.1)
          found cases otherwise found_of formulas (reads r c inside) s.domain
          (subst (AreBoxed s.domain) body stage_is.boxes) inside))

      pub narrow_stage : found.narrow ≡ true → IsNarrowStage job g
      narrow_stage e t is r c inside =
          subst (λ (u : Stage). HoldsPoint u.domain r c → IsNarrowBody (value job) u.body r c) (same_Some s t (sym there ∙ is))
          (λ within. subst (λ (b : Body). IsNarrowBody (value job) b r c) (sym body)
          (function_narrow ranges (value job) r c (near_fits s.domain.rows r stage_is.rows within.0)
          (near_fits s.domain.cols c stage_is.cols within.1) found cases otherwise found_of formulas (reads r c within) e))
          inside

    pub plane_range : (n : ℕ) (range : ValueRange) → s.body ≡ plane n → range.lo ≡ pos 0 → range.hi ≡ pos job.picture.max → IsRangeOf job g range
    plane_range n range body low high =
        range_by range (subst IsValued (sym body) tt) (λ r c inside.
        subst (λ (b : Body). InRange range (body_value job.picture (value job) b r c)) (sym body)
        (sample_in range job.picture n r c h.picture low high))

-- each stage may have the full range
pub full_is : (job : Pipeline) → IsJob job → (g : ℕ) (range : ValueRange) → range ≡ full_range → IsRangeOf job g range
full_is job h g range full s there valued r c inside =
    in_full range (value job g r c) full (value_fits job h g r c (record { stage = s; there = there; valued = valued; within = inside }))

-- a range is replaced by another that the stage may have
pub replaced : (job : Pipeline) (ranges : List ValueRange) (g : ℕ) (range : ValueRange) → AreRanges job ranges → IsRangeOf job g range
    → g < length ranges → AreRanges job (set ranges g range)
replaced job ranges g range right is within k other s found there valued r c inside = by (cases_eq k g)
  where
    by : (k ≡ g) ⊎ (k ≡ g → ⊥) → InRange other (value job k r c)
    by (inl e) =
        let same : range ≡ other =
        same_Some range other (sym (slice_get-set_same ranges g range within) ∙ ap (slice_get (set ranges g range)) (sym e) ∙ found) in
        subst (λ (n : ℕ). InRange other (value job n r c)) (sym e)
        (subst (λ (y : ValueRange). InRange y (value job g r c)) same
        (is s (ap (slice_get job.stages) (sym e) ∙ there) valued r c inside))
    by (inr ne) = right k other s (sym (slice_get-set_other ranges g k range ne) ∙ found) there valued r c inside

replicate_only : (n g : ℕ) (x y : ValueRange) → slice_get (replicate n x) g ≡ Some y → y ≡ x
replicate_only zero g x y is = absurd (none-some y is)
replicate_only (suc n) zero x y is = sym (same_Some x y is)
replicate_only (suc n) (suc g) x y is = replicate_only n g x y is

-- where nothing is known each stage has the full range
pub full_known : (job : Pipeline) → IsJob job → (n : ℕ) (ranges : List ValueRange) → ranges ≡ replicate n full_range → AreKnown job ranges
full_known job h n ranges same = record {
  each = λ g range s found there valued r c inside.
      full_is job h g range
      (replicate_only n g full_range range (ap (λ (xs : List ValueRange). slice_get xs g) (sym same) ∙ found)) s there valued r c inside;
}

pub known_replaced : (job : Pipeline) (ranges : List ValueRange) (g : ℕ) (range : ValueRange) → AreKnown job ranges → IsRangeOf job g range
    → g < length ranges → AreKnown job (set ranges g range)
known_replaced job ranges g range right is within = record { each = replaced job ranges g range right.each is within }
