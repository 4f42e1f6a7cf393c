-- Values fit 32 bits.
use Rattle.std.proofs.Common.{ℕ, zero, suc, arith, ◌≡◌, ◌≤◌, ◌*◌, ◌+◌, ℤ, pos, FitsSigned, w32}
use Rattle.std.proofs.Common.{List, [], ◌∷◌, ◌++◌, Bool, true, false, Option, Some, None, ◌∙◌, refl}
use Rattle.std.specs.Prelude.{All, map, if◌then◌else◌, slice_index, slice_index_or, unsigned_abs}
use Rattle.std.specs.Int.{int_gap}
use Rattle.std.specs.Option.{option_map_or, ForSome}
use Rattle.std.proofs.lemmas.Int.{ints, SFits-int_wrap}
use Rattle.std.proofs.lemmas.List.Elements.{All-head, All-tail}
use Rattle.domains.specs.Arithmetic.{wrapped, clamped}
use Rattle.netpbm.specs.Image.{Image, IsPlane, IsImage}
pub use Rattle.operators.proofs.Fitting.{from_bounds, quotient_fits, unary_fits, binary_fits, ternary_fits, literal_fits}
use Rattle.domains.specs.Area.{HoldsPoint}
use Rattle.domains.specs.declared.area.Area.{Area}
use Rattle.tables.specs.Entries.{Entries, IsEntries, entry_at}
use Rattle.job.specs.Formula.{Axis, row, column, Formula, number, coordinate, read, unary, binary, ternary, literal, lookup, select, stencil}
use Rattle.job.specs.Pipeline.{JobCase, Body, plane, function, accumulator}
use Rattle.job.specs.Values.{Valuation, is_related, along, weighted_sum, formula_value, all_passed}
use Rattle.job.specs.Values.{chosen, sample_at, body_value}
use Rattle.job.specs.Reads.{Read, point, reads_in, EachTaken, EachRead, CaseReads, BodyReads, other_formula, formulas_of}
use Rattle.job.specs.Boxes.{box_of, AreBoxed}
use Rattle.job.specs.WellFormed.{IsFormula}
use Rattle.job.proofs.Agreeing.{All-left, All-right}
use Rattle.job.proofs.Steps.{All-from_map, All-both, other_each}
use Rattle.job.proofs.BoxLaws.{passed_in_box}

-- ---- samples

index_bounded : (max : ℕ) (xs : List ℕ) (k : ℕ) → All (λ x. x ≤ max) xs → slice_index xs k ≤ max
index_bounded max [] k each = omega arith
index_bounded max (x ∷ xs) zero each = All-head (λ x. x ≤ max) x xs each
index_bounded max (x ∷ xs) (suc k) each = index_bounded max xs k (All-tail (λ x. x ≤ max) x xs each)

plane_bounded : (area max : ℕ) (planes : List (List ℕ)) (n k : ℕ) → All (IsPlane area max) planes
    → slice_index (slice_index_or planes n []) k ≤ max
plane_bounded area max [] n k each = omega arith
plane_bounded area max (xs ∷ planes) zero k each = index_bounded max xs k (All-head (IsPlane area max) xs planes each).bounded
plane_bounded area max (xs ∷ planes) (suc n) k each = plane_bounded area max planes n k (All-tail (IsPlane area max) xs planes each)

small_fits : (n max : ℕ) → n ≤ max → max ≤ 65535 → FitsSigned w32 (pos n)
small_fits n max low high = from_bounds (pos n) (omega (arith, ints)) (omega (arith, ints))

sample_fits : (picture : Image) (n : ℕ) (r c : ℤ) → IsImage picture → FitsSigned w32 (sample_at picture n r c)
sample_fits picture n r c is =
    small_fits _ picture.max (plane_bounded (picture.rows * picture.cols) picture.max picture.planes n
    (unsigned_abs r * picture.cols + unsigned_abs c) is.planes) is.max.most

-- ---- selects

one_of_fits : (b : Bool) (x y : ℤ) → FitsSigned w32 x → FitsSigned w32 y → FitsSigned w32 (if b then x else y)
one_of_fits true x y f g = f
one_of_fits false x y f g = g

-- ---- entries

-- a number at a place, or 0 past the last
one_of_list_fits : (values : List ℤ) (k : ℕ) → All (FitsSigned w32) values → FitsSigned w32 (slice_index_or values k (pos 0))
one_of_list_fits [] k fit = from_bounds (pos 0) (omega (arith, ints)) (omega (arith, ints))
one_of_list_fits (v ∷ values) zero fit = All-head (FitsSigned w32) v values fit
one_of_list_fits (v ∷ values) (suc k) fit = one_of_list_fits values k (All-tail (FitsSigned w32) v values fit)

entry_fits : (t : Entries) → IsEntries t → (v : ℤ) → FitsSigned w32 (entry_at t v)
entry_fits t is v = one_of_list_fits t.values (int_gap t.span.lo (clamped v t.span.lo t.span.hi)) is.fit

-- ---- formulas

module _ (env : Valuation) (r c : ℤ) (row_fits : FitsSigned w32 r) (column_fits : FitsSigned w32 c) where
  abbrev pub TakenFits : Read → Type 0
  TakenFits x = EachTaken (λ g i j. FitsSigned w32 (env g i j)) x r c

  along_fits : (x : Axis) → FitsSigned w32 (along x r c)
  along_fits row = row_fits
  along_fits column = column_fits

  pub formula_fits : (f : Formula) → IsFormula f → EachRead (λ g i j. FitsSigned w32 (env g i j)) f r c
      → FitsSigned w32 (formula_value env f r c)
  formula_fits (number n) is reads = is
  formula_fits (coordinate x) is reads = along_fits x
  formula_fits (read g i j) is reads = All-head TakenFits (point g i j) [] reads
  formula_fits (unary op a) is reads = unary_fits op (formula_value env a r c) (formula_fits a is reads)
  formula_fits (binary op a b) is reads =
      binary_fits op (formula_value env a r c) (formula_value env b r c)
      (formula_fits a is.0 (All-left TakenFits (reads_in a) (reads_in b) reads))
      (formula_fits b is.1 (All-right TakenFits (reads_in a) (reads_in b) reads))
  formula_fits (ternary op a b d) is reads =
      let front : All TakenFits (reads_in a ++ reads_in b) = All-left TakenFits (reads_in a ++ reads_in b) (reads_in d) reads in
      ternary_fits op (formula_value env a r c) (formula_value env b r c) (formula_value env d r c)
      (formula_fits a is.0 (All-left TakenFits (reads_in a) (reads_in b) front))
      (formula_fits b is.1 (All-right TakenFits (reads_in a) (reads_in b) front))
      (formula_fits d is.2 (All-right TakenFits (reads_in a ++ reads_in b) (reads_in d) reads))
  formula_fits (literal op a n) is reads = literal_fits op (formula_value env a r c) n is.0 (formula_fits a is.1 reads)
  formula_fits (lookup t a) is reads = entry_fits t is.0 (formula_value env a r c)
  formula_fits (select a relation b first second) is reads =
      let three : All TakenFits (reads_in a ++ reads_in b ++ reads_in first) =
      All-left TakenFits (reads_in a ++ reads_in b ++ reads_in first) (reads_in second) reads in
      one_of_fits (is_related relation (formula_value env a r c) (formula_value env b r c)) (formula_value env first r c)
      (formula_value env second r c)
      (formula_fits first is.2 (All-right TakenFits (reads_in a ++ reads_in b) (reads_in first) three))
      (formula_fits second is.3 (All-right TakenFits (reads_in a ++ reads_in b ++ reads_in first) (reads_in second) reads))
  formula_fits (stencil g divisor kernel) is reads =
      quotient_fits (wrapped (weighted_sum kernel (env g) r c)) divisor is.0.0 (SFits-int_wrap w32 _)

  -- ---- stages

  some_fits : (o : Option Formula) → ForSome o (λ f. FitsSigned w32 (formula_value env f r c))
      → FitsSigned w32 (option_map_or (λ f. formula_value env f r c) o (pos 0))
  some_fits None fits = from_bounds (pos 0) (omega (arith, ints)) (omega (arith, ints))
  some_fits (Some f) fits = fits f refl

  first_fits : (passed : Bool) (f : Formula) (o : Option Formula) → (passed ≡ true → FitsSigned w32 (formula_value env f r c))
      → FitsSigned w32 (option_map_or (λ a. formula_value env a r c) o (pos 0))
      → FitsSigned w32 (option_map_or (λ a. formula_value env a r c) (if passed then Some f else o) (pos 0))
  first_fits true f o here others = here refl
  first_fits false f o here others = others

  abbrev pub FitsWhere : JobCase → Type 0
  FitsWhere p = all_passed p.tests r c ≡ true → FitsSigned w32 (formula_value env p.formula r c)

  chosen_fits : (ps : List JobCase) (otherwise : Option Formula) → All FitsWhere ps
      → ForSome otherwise (λ f. FitsSigned w32 (formula_value env f r c))
      → FitsSigned w32 (option_map_or (λ f. formula_value env f r c) (chosen ps otherwise r c) (pos 0))
  chosen_fits [] otherwise each other = some_fits otherwise other
  chosen_fits (p ∷ ps) otherwise each other =
      first_fits (all_passed p.tests r c) p.formula (chosen ps otherwise r c) (All-head FitsWhere p ps each)
      (chosen_fits ps otherwise (All-tail FitsWhere p ps each) other)

  pub body_fits : (picture : Image) (domain : Area) (body : Body) → IsImage picture → AreBoxed domain body
      → All IsFormula (formulas_of body) → HoldsPoint domain r c → BodyReads (λ g i j. FitsSigned w32 (env g i j)) body r c
      → FitsSigned w32 (body_value picture env body r c)
  body_fits picture domain (plane n) is boxed formulas inside reads = sample_fits picture n r c is
  body_fits picture domain (function cases otherwise) is boxed formulas inside reads =
      let front : All (λ p. IsFormula p.formula) cases =
      All-from_map IsFormula (λ p. p.formula) cases
      (All-left IsFormula (map (λ p. p.formula) cases) (other_formula otherwise) formulas) in
      let back : ForSome otherwise IsFormula =
      other_each IsFormula otherwise (All-right IsFormula (map (λ p. p.formula) cases) (other_formula otherwise) formulas) in
      let both : All (λ p. IsFormula p.formula × CaseReads (λ g i j. FitsSigned w32 (env g i j)) p r c) cases =
      All-both (λ p. IsFormula p.formula) (λ p. CaseReads (λ g i j. FitsSigned w32 (env g i j)) p r c)
      (λ p. IsFormula p.formula × CaseReads (λ g i j. FitsSigned w32 (env g i j)) p r c) (λ p a b. (a, b)) cases front reads.0 in
      chosen_fits cases otherwise
      (All-both (λ p. p.box ≡ box_of domain p.tests) (λ p. IsFormula p.formula × CaseReads (λ g i j. FitsSigned w32 (env g i j)) p r c)
      FitsWhere
      (λ p box parts passed. let there = passed_in_box domain p.tests r c inside passed in
      formula_fits p.formula parts.0 (parts.1 there.0 (box ∙ there.1) there.2))
      cases boxed both)
      (λ f there. formula_fits f (back f there) (reads.1 f there))
  body_fits picture domain (accumulator fold bins value bin) is boxed formulas inside reads =
      from_bounds (pos 0) (omega (arith, ints)) (omega (arith, ints))
