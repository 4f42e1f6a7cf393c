-- A worked job is a job.
use Rattle.std.proofs.Common.{ℕ, zero, suc, arith, ◌≡◌, ◌≤◌, ◌<◌, ℤ, pos, negsuc, ◌+ℤ◌, ◌≤ℤ◌, FitsSigned, w32, [], ◌∷◌, length}
use Rattle.std.proofs.Common.{Some, inl, lit≤, subst, sym, refl}
use Rattle.std.specs.Prelude.{All, slice_get}
use Rattle.std.proofs.lemmas.Int.{ints}
use Rattle.std.proofs.lemmas.List.Elements.{All-nil, All-cons, All-from_recursion}
use Rattle.domains.specs.Area.{HoldsPoint}
use Rattle.netpbm.specs.Image.{IsPlane, IsImage}
use Rattle.operators.specs.declared.operator.Relation.TheVariants.{Equals}
use Rattle.job.specs.Formula.{row, column, stencil, compare}
use Rattle.job.specs.Pipeline.{Stage}
use Rattle.domains.specs.declared.area.Area.{Area}
use Rattle.job.specs.Values.{factors, kernel_row, kernel_column}
use Rattle.job.specs.Reads.{window, EachTaken, CaseReads}
use Rattle.job.specs.Boxes.{box_of}
use Rattle.job.specs.WellFormed.{IsReadable, InDomainRange, IsStage, IsOutput, IsOutputPlane, IsJob, IsFormula, IsTable, IsTest, IsKernel}
use Rattle.job.specs.Worked.{ends, area, ones, middle, plane_stage, blurred, blur}

-- ---- literal lists

one_of_one : {X : Type 0} (P : X → Type 0) (x : X) → P x → All P (x ∷ [])
one_of_one P x p = All-cons P x [] p (All-nil P)

three_of_three : {X : Type 0} (P : X → Type 0) (x y z : X) → P x → P y → P z → All P (x ∷ y ∷ z ∷ [])
three_of_three P x y z p q r = All-cons P x (y ∷ z ∷ []) p (All-cons P y (z ∷ []) q (one_of_one P z r))

-- ---- the kernel

kernel_is : IsKernel ones
kernel_is = record {
  height = (refl, omega arith);
  width = (refl, omega arith);
  one_width = three_of_three (λ factors. length factors ≡ 3) _ _ _ refl refl refl;
}

width_is : (a : ℕ) → a < 3 → length (factors ones a) ≡ 3
width_is zero low = refl
width_is (suc zero) low = refl
width_is (suc (suc zero)) low = refl
width_is (suc (suc (suc a))) low = absurd (omega arith)

-- ---- what is read about the middle

readable : (r c : ℤ) → (pos 0 ≤ℤ r) × (r ≤ℤ pos 2) → (pos 0 ≤ℤ c) × (c ≤ℤ pos 2) → IsReadable blur.stages 0 r c
readable r c rows cols = record { stage = plane_stage 73 0 (area (pos 2) (pos 2)); there = refl; valued = tt; within = (rows, cols) }

beside : (v : ℤ) (a : ℕ) → pos 1 ≤ℤ v → v ≤ℤ pos 1 → a < 3 → (pos 0 ≤ℤ (v +ℤ pos a +ℤ negsuc 0)) × ((v +ℤ pos a +ℤ negsuc 0) ≤ℤ pos 2)
beside v a low high l = (omega (arith, ints), omega (arith, ints))

below_three : (b n : ℕ) → n ≡ 3 → b < n → b < 3
below_three b n e l = omega arith

taken : (r c : ℤ) → HoldsPoint (record { rows = ends (pos 1) (pos 1); cols = ends (pos 1) (pos 1) }) r c
    → EachTaken (IsReadable blur.stages) (window 0 ones) r c
taken r c inside a b la lb =
    readable (kernel_row ones r a) (kernel_column ones c b) (beside r a inside.0.0 inside.0.1 la)
    (beside c b inside.1.0 inside.1.1 (below_three b (length (factors ones a)) (width_is a la) lb))

-- ---- the stages

middle_reads : (r c : ℤ) → CaseReads (IsReadable blur.stages) middle r c
middle_reads r c box is inside =
    let same : record { rows = ends (pos 1) (pos 1); cols = ends (pos 1) (pos 1) } ≡ box = cc in
    one_of_one (λ x. EachTaken (IsReadable blur.stages) x r c) (window 0 ones)
    (taken r c (subst (λ (b : Area). HoldsPoint b r c) (sym same) inside))

three_numbers : InDomainRange (ends (pos 0) (pos 2))
three_numbers = record {
  span = record { least = omega (arith, ints); ordered = omega (arith, ints); most = omega (arith, ints) };
  least = omega (arith, ints);
  most = omega (arith, ints);
}

samples_are_a_stage : IsStage blur (plane_stage 73 0 (area (pos 2) (pos 2)))
samples_are_a_stage = record {
  rank = refl;
  rows = three_numbers;
  cols = three_numbers;
  body = (omega arith, refl);
  boxes = tt;
  formulas = All-nil IsFormula;
  reads = λ r c inside. tt;
  tiles = λ none. absurd (cc);
}

blur_is_a_stage : IsStage blur blurred
blur_is_a_stage = record {
  rank = refl;
  rows = three_numbers;
  cols = three_numbers;
  body =
      one_of_one (λ p. All IsTest p.tests) middle (All-cons IsTest (compare row Equals (pos 1)) (compare column Equals (pos 1) ∷ []) tt
      (one_of_one IsTest (compare column Equals (pos 1)) tt));
  boxes = one_of_one (λ p. p.box ≡ box_of (area (pos 2) (pos 2)) p.tests) middle refl;
  formulas = one_of_one IsFormula (stencil 0 9 ones) ((omega arith, omega arith), kernel_is);
  reads = λ r c inside. (one_of_one (λ p. CaseReads (IsReadable blur.stages) p r c) middle (middle_reads r c), (λ f is. absurd (cc)));
  tiles = λ some. omega arith;
}

-- ---- the job

each_stage : (g : ℕ) (s : Stage) → slice_get blur.stages g ≡ Some s → IsStage blur s
each_stage zero s is = let same : plane_stage 73 0 (area (pos 2) (pos 2)) ≡ s = cc in subst (IsStage blur) same samples_are_a_stage
each_stage (suc zero) s is = let same : blurred ≡ s = cc in subst (IsStage blur) same blur_is_a_stage
each_stage (suc (suc g)) s is = absurd (cc)

one_plane : All (IsPlane 9 9) ((1 ∷ 2 ∷ 3 ∷ 4 ∷ 5 ∷ 6 ∷ 7 ∷ 8 ∷ 9 ∷ []) ∷ [])
one_plane =
    one_of_one (IsPlane 9 9) (1 ∷ 2 ∷ 3 ∷ 4 ∷ 5 ∷ 6 ∷ 7 ∷ 8 ∷ 9 ∷ []) (record {
      whole = refl;
      bounded =
          All-from_recursion (λ s. s ≤ 9) (1 ∷ 2 ∷ 3 ∷ 4 ∷ 5 ∷ 6 ∷ 7 ∷ 8 ∷ 9 ∷ [])
          (lit≤ tt, (lit≤ tt, (lit≤ tt, (lit≤ tt, (lit≤ tt, (lit≤ tt, (lit≤ tt, (lit≤ tt, (lit≤ tt, tt)))))))));
    })

picture_is : IsImage blur.picture
picture_is = record {
  rows = record { least = omega arith; most = omega arith };
  cols = record { least = omega arith; most = omega arith };
  max = record { least = omega arith; most = omega arith };
  colours = inl refl;
  planes = one_plane;
}

output_is : IsOutput blur (record { stages = 1 ∷ []; max = 255 })
output_is = record {
  planes = inl refl;
  height = record { least = omega arith; most = omega arith };
  width = record { least = omega arith; most = omega arith };
  equal_sides = one_of_one (IsOutputPlane blur 3 3) 1 (record { stage = blurred; there = refl; function = tt; rows = refl; cols = refl });
  max = record { least = omega arith; most = omega arith };
}

pub blur_is : IsJob blur
blur_is = record {
  stages = each_stage;
  few_stages = omega arith;
  output = λ o is. let same : record { stages = 1 ∷ []; max = 255 } ≡ o = cc in subst (IsOutput blur) same output_is;
  params = All-nil (λ p. FitsSigned w32 p.value);
  tables = All-nil IsTable;
  few_tables = omega arith;
  picture = picture_is;
  sides = record { height_least = omega arith; height_most = omega arith; width_least = omega arith; width_most = omega arith };
}
