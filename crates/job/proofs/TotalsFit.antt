-- Totals fit 64 bits.
use Rattle.std.proofs.Common.{ℕ, arith, ◌≡◌, ℤ, pos, negsuc, FitsSigned, w32, w64, List, [], ◌∷◌, Option, Some, None, inl, inr}
use Rattle.std.proofs.Common.{subst, sym, refl}
use Rattle.std.specs.Prelude.{◌⊎◌, All, Contains, map, filter, fold, slice_get}
use Rattle.std.specs.Int.{int_min, int_max}
use Rattle.std.specs.Option.{option_map_or}
use Rattle.std.specs.Ordering.{int_eq}
use Rattle.std.proofs.lemmas.Int.{SFits-int_wrap, fold-int_min_reached, fold-int_max_reached}
use Rattle.std.proofs.lemmas.List.Elements.{All-nil, All-cons, All-head, All-tail, All-weaker, All-filter, All-contains}
use Rattle.domains.specs.Span.{numbers_of}
use Rattle.domains.specs.Area.{HoldsPoint, IsArea, IsSubarea, points_of}
use Rattle.domains.specs.declared.area.Area.{Area}
use Rattle.operators.specs.declared.operator.ReductionOp.{ReductionOp}
use Rattle.operators.specs.declared.operator.ReductionOp.TheVariants.{Sum, Min, Max}
use Rattle.job.specs.Formula.{Formula}
use Rattle.job.specs.Pipeline.{Body, plane, function, accumulator, Stage, Pipeline}
use Rattle.job.specs.Values.{formula_value, kernel_row, kernel_column, value}
use Rattle.job.specs.Reads.{Read, point, window, reads_in, EachTaken, EachRead, BodyReads, formulas_of}
use Rattle.job.specs.Totals.{start_of, total_of, values_in_bin, body_totals, totals_over, totals}
use Rattle.job.specs.WellFormed.{IsReadable, IsFormula, IsStage, IsJob}
use Rattle.job.proofs.Fitting.{formula_fits}
use Rattle.job.proofs.Solving.{near_fits, value_fits}
use Rattle.job.proofs.TotalLaws.{points_inside}

widens : (z : ℤ) → FitsSigned w32 z → FitsSigned w64 z
widens (pos n) fits = omega arith
widens (negsuc n) fits = omega arith

one_of : (P : ℤ → Type 0) (vs : List ℤ) (start r : ℤ) → P start → All P vs → (r ≡ start) ⊎ Contains vs r → P r
one_of P vs start r first each (inl is) = subst P (sym is) first
one_of P vs start r first each (inr there) = All-contains P vs r each there

start_fits : (way : ReductionOp) → FitsSigned w64 (start_of way)
start_fits Sum = omega arith
start_fits Min = omega arith
start_fits Max = omega arith

pub total_fits : (way : ReductionOp) (vs : List ℤ) → All (FitsSigned w64) vs → FitsSigned w64 (total_of way vs)
total_fits Sum vs each = SFits-int_wrap w64 _
total_fits Min vs each =
    one_of (FitsSigned w64) vs (start_of Min) (fold int_min (start_of Min) vs) (start_fits Min) each
    (fold-int_min_reached (start_of Min) vs _ refl)
total_fits Max vs each =
    one_of (FitsSigned w64) vs (start_of Max) (fold int_max (start_of Max) vs) (start_fits Max) each
    (fold-int_max_reached (start_of Max) vs _ refl)

All-map : {X Y : Type 0} (P : Y → Type 0) (f : X → Y) (xs : List X) → All (λ x. P (f x)) xs → All P (map f xs)
All-map P f [] h = All-nil P
All-map P f (x ∷ xs) h = All-cons P (f x) (map f xs) (All-head (λ y. P (f y)) x xs h) (All-map P f xs (All-tail (λ y. P (f y)) x xs h))

all_of : {X : Type 0} (P : X → Type 0) → ((x : X) → P x) → (xs : List X) → All P xs
all_of P f [] = All-nil P
all_of P f (x ∷ xs) = All-cons P x xs (f x) (all_of P f xs)

module _ (job : Pipeline) (is : IsJob job) where
  taken_fits : (r c : ℤ) (x : Read) → EachTaken (IsReadable job.stages) x r c → EachTaken (λ g i j. FitsSigned w32 (value job g i j)) x r c
  taken_fits r c (point g i j) there = value_fits job is g _ _ there
  taken_fits r c (window g kernel) there =
      λ a b la lb. value_fits job is g (kernel_row kernel r a) (kernel_column kernel c b) (there a b la lb)

  read_fits : (f : Formula) (r c : ℤ) → EachRead (IsReadable job.stages) f r c → EachRead (λ g i j. FitsSigned w32 (value job g i j)) f r c
  read_fits f r c there =
      All-weaker (λ x. EachTaken (IsReadable job.stages) x r c) (λ x. EachTaken (λ g i j. FitsSigned w32 (value job g i j)) x r c)
      (taken_fits r c) (reads_in f) there

  body_totals_fit : (s : Stage) (area : Area) (body : Body) → IsStage job s → s.body ≡ body → IsArea area → IsSubarea area s.domain
      → All (FitsSigned w64) (body_totals (value job) area body)
  body_totals_fit s area (plane n) h b within inside = All-nil (FitsSigned w64)
  body_totals_fit s area (function cases otherwise) h b within inside = All-nil (FitsSigned w64)
  body_totals_fit s area (accumulator way bins v bin) h b within inside =
      let reads : (r c : ℤ) → HoldsPoint s.domain r c → BodyReads (IsReadable job.stages) (accumulator way bins v bin) r c =
      subst (λ (x : Body). (r c : ℤ) → HoldsPoint s.domain r c → BodyReads (IsReadable job.stages) x r c) b h.reads in
      let good : IsFormula v = All-head IsFormula v (bin ∷ []) (subst (λ (x : Body). All IsFormula (formulas_of x)) b h.formulas) in
      let at : (t : ℤ × ℤ) → HoldsPoint area t.0 t.1 → FitsSigned w64 (formula_value (value job) v t.0 t.1) = λ t there.
      let here = inside t.0 t.1 there in
      widens _ (formula_fits (value job) t.0 t.1 (near_fits s.domain.rows t.0 h.rows here.0) (near_fits s.domain.cols t.1 h.cols here.1) v
      good (read_fits v t.0 t.1 (reads t.0 t.1 here).0)) in
      let all : All (λ t. FitsSigned w64 (formula_value (value job) v t.0 t.1)) (points_of area) =
      All-weaker (λ t. HoldsPoint area t.0 t.1) (λ t. FitsSigned w64 (formula_value (value job) v t.0 t.1)) at (points_of area)
      (points_inside area within) in
      All-map (FitsSigned w64) (λ b. total_of way (values_in_bin (value job) v bin area b)) (numbers_of bins)
      (all_of (λ b. FitsSigned w64 (total_of way (values_in_bin (value job) v bin area b))) (λ b.
      total_fits way (values_in_bin (value job) v bin area b)
      (All-map (FitsSigned w64) (λ p. formula_value (value job) v p.0 p.1)
      (filter (λ p. int_eq (formula_value (value job) bin p.0 p.1) b) (points_of area))
      (All-filter (λ p. int_eq (formula_value (value job) bin p.0 p.1) b) (λ t. FitsSigned w64 (formula_value (value job) v t.0 t.1))
      (points_of area) all)))
      (numbers_of bins))

  domain_is : (s : Stage) → IsStage job s → IsArea s.domain
  domain_is s h = record { rows = h.rows.span; cols = h.cols.span }

  pub totals_over_fit : (g : ℕ) (s : Stage) (area : Area) → slice_get job.stages g ≡ Some s → IsArea area → IsSubarea area s.domain
      → All (FitsSigned w64) (totals_over job area g)
  totals_over_fit g s area there within inside =
      subst (λ (o : Option Stage). All (FitsSigned w64) (option_map_or (λ t. body_totals (value job) area t.body) o [])) (sym there)
      (body_totals_fit s area s.body (is.stages g s there) refl within inside)

  by_stage : (g : ℕ) (o : Option Stage) → slice_get job.stages g ≡ o
      → All (FitsSigned w64) (option_map_or (λ s. body_totals (value job) s.domain s.body) o [])
  by_stage g None there = All-nil (FitsSigned w64)
  by_stage g (Some s) there = body_totals_fit s s.domain s.body (is.stages g s there) refl (domain_is s (is.stages g s there)) (λ r c h. h)

  pub job_totals_fit_in_64_bits : (g : ℕ) → All (FitsSigned w64) (totals job g)
  job_totals_fit_in_64_bits g = by_stage g (slice_get job.stages g) refl
