-- One stage of a part more, and one stage more of which a formula is known.
use Rattle.std.proofs.Common.{ℕ, zero, suc, ◌+◌, ◌<◌, ◌≤◌, ◌≡◌, List, [], ◌∷◌, ◌++◌, Some, length, map, slice_get, ap, sym, subst, ◌∙◌, refl, arith}
use Rattle.std.specs.Prelude.{All}
use Rattle.std.proofs.lemmas.List.{map-append}
use Rattle.std.proofs.lemmas.List.Elements.{All-nil, All-cons, All-append, All-weaker}
use Rattle.job.specs.Pipeline.{function, Stage, Pipeline}
use Rattle.job.specs.Reads.{EachTaken, reads_in, reads_of}
use Rattle.job.specs.Views.{formula_view, stage_view}
use Rattle.job.specs.WellFormed.{IsJob, IsReadable}
use Rattle.job.specs.declared.stage.Stage.{Stage as KeptStage}
use Rattle.joined_formulas.specs.declared.known.StageFormula.{StageFormula}
use Rattle.part_stages.specs.Parts.{stages_with, AreBelow, ArePartStages, IsWholeStage, IsPartKnown, IsPartStage, IsSomePartStage}
use Rattle.part_stages.specs.declared.part_stages.PartStages.{PartStages}
use Rattle.part_stages.proofs.Behind.{there_left}

pub append_nothing : {X : Type 0} (xs : List X) → xs ++ [] ≡ xs
append_nothing [] = refl
append_nothing (x ∷ xs) = ap (λ ys. x ∷ ys) (append_nothing xs)

from_zero : (n : ℕ) → n ≡ 0 + n
from_zero n = omega arith

step : (m n k : ℕ) → m ≡ n + k → suc m ≡ suc n + k
step m n k e = omega (arith, e)

length_more : {X : Type 0} (xs ys : List X) → length (xs ++ ys) ≡ length xs + length ys
length_more [] ys = from_zero (length ys)
length_more (x ∷ xs) ys = step (length (xs ++ ys)) (length xs) (length ys) (length_more xs ys)

behind_all : {X : Type 0} (xs ys : List X) (y : X) → (xs ++ ys) ++ y ∷ [] ≡ xs ++ (ys ++ y ∷ [])
behind_all [] ys y = refl
behind_all (x ∷ xs) ys y = ap (λ zs. x ∷ zs) (behind_all xs ys y)

last_there : {X : Type 0} (xs : List X) (y : X) (n : ℕ) → n ≡ length xs → slice_get (xs ++ y ∷ []) n ≡ Some y
last_there [] y n is = ap (slice_get (y ∷ [])) is
last_there (x ∷ xs) y zero is = absurd (omega (arith, is))
last_there (x ∷ xs) y (suc n) is = last_there xs y n (omega (arith, is))

pub map_length : {X Y : Type 0} (f : X → Y) (xs : List X) → length (map f xs) ≡ length xs
map_length f [] = refl
map_length f (x ∷ xs) = ap suc (map_length f xs)

pub no_parts : (job : Pipeline) (parts : PartStages) → IsJob job → parts.stages.items ≡ [] → parts.known.items ≡ []
    → ArePartStages job parts
no_parts job parts is stages known =
    record {
      each = subst (λ (ss : List KeptStage). All (IsSomePartStage job) (map stage_view ss)) (sym stages) (All-nil (IsSomePartStage job));
      known = subst (λ (ks : List StageFormula). All (IsPartKnown job (stages_with job parts)) ks) (sym known)
          (All-nil (IsPartKnown job (stages_with job parts)));
      few =
          subst (λ (ss : List KeptStage). length (job.stages ++ map stage_view ss) ≤ 65536) (sym stages)
          (subst (λ (n : ℕ). n ≤ 65536) (sym (length_more job.stages [] ∙ omega arith)) is.few_stages);
    }

-- a stage of the job that is one formula, wherever all that it reads has a value, is known
pub whole_known : (job : Pipeline) (parts : PartStages) (k : StageFormula) (s : Stage) → slice_get job.stages k.stage ≡ Some s
    → s.body ≡ function [] (Some (formula_view k.formula)) → IsWholeStage job s → IsPartKnown job (stages_with job parts) k
whole_known job parts k s there body whole =
    let own : reads_of s.body ≡ reads_in (formula_view k.formula) = ap reads_of body ∙ append_nothing (reads_in (formula_view k.formula)) in
    record {
      stage = s;
      there = there_left job.stages (map stage_view parts.stages.items) k.stage s there;
      body = body;
      below = subst (AreBelow (length job.stages)) own whole.below;
      whole = λ r c each. whole.whole r c (subst (All (λ x. EachTaken (IsReadable job.stages) x r c)) (sym own) each);
    }

-- one more is known
pub one_known_more : (job : Pipeline) (before after : PartStages) (entry : StageFormula) → after.stages.items ≡ before.stages.items
    → after.known.items ≡ before.known.items ++ entry ∷ [] → IsPartKnown job (stages_with job before) entry
    → ArePartStages job before → ArePartStages job after
one_known_more job before after entry stages known new of =
    let same : stages_with job after ≡ stages_with job before = ap (λ (ss : List KeptStage). job.stages ++ map stage_view ss) stages in
    record {
      each = subst (λ (ss : List KeptStage). All (IsSomePartStage job) (map stage_view ss)) (sym stages) of.each;
      known =
          subst (All (IsPartKnown job (stages_with job after))) (sym known)
          (subst (λ (ss : List Stage). All (IsPartKnown job ss) (before.known.items ++ entry ∷ [])) (sym same)
          (All-append (IsPartKnown job (stages_with job before)) before.known.items (entry ∷ []) of.known
          (All-cons (IsPartKnown job (stages_with job before)) entry [] new (All-nil (IsPartKnown job (stages_with job before))))));
      few = subst (λ (ss : List Stage). length ss ≤ 65536) (sym same) of.few;
    }

-- one stage more
module _ (job : Pipeline) (before after : PartStages) (stage : KeptStage) (entry : StageFormula)
    (stages : after.stages.items ≡ before.stages.items ++ stage ∷ []) (known : after.known.items ≡ before.known.items ++ entry ∷ [])
    (is : IsPartStage job (formula_view entry.formula) (stage_view stage))
    (number : entry.stage ≡ length job.stages + length before.stages.items) (few : entry.stage < 65536) where
  all_stages : stages_with job after ≡ stages_with job before ++ stage_view stage ∷ []
  all_stages =
      ap (λ (ss : List KeptStage). job.stages ++ map stage_view ss) stages
      ∙ ap (λ (ss : List Stage). job.stages ++ ss) (map-append stage_view before.stages.items (stage ∷ []))
      ∙ sym (behind_all job.stages (map stage_view before.stages.items) (stage_view stage))

  count : entry.stage ≡ length (stages_with job before)
  count =
      number ∙ ap (λ (n : ℕ). length job.stages + n) (sym (map_length stage_view before.stages.items))
      ∙ sym (length_more job.stages (map stage_view before.stages.items))

  still_known : (k : StageFormula) → IsPartKnown job (stages_with job before) k → IsPartKnown job (stages_with job after) k
  still_known k of =
      record {
        stage = of.stage;
        there = ap (λ (ss : List Stage). slice_get ss k.stage) all_stages
            ∙ there_left (stages_with job before) (stage_view stage ∷ []) k.stage of.stage of.there;
        body = of.body;
        below = of.below;
        whole = of.whole;
      }

  new_known : IsPartKnown job (stages_with job after) entry
  new_known =
      record {
        stage = stage_view stage;
        there = ap (λ (ss : List Stage). slice_get ss entry.stage) all_stages
            ∙ last_there (stages_with job before) (stage_view stage) entry.stage count;
        body = is.body;
        below = is.below;
        whole = is.area.points.whole;
      }

  pub one_part_more : ArePartStages job before → ArePartStages job after
  one_part_more of =
      record {
        each =
            subst (λ (ss : List KeptStage). All (IsSomePartStage job) (map stage_view ss)) (sym stages)
            (subst (All (IsSomePartStage job)) (sym (map-append stage_view before.stages.items (stage ∷ [])))
            (All-append (IsSomePartStage job) (map stage_view before.stages.items) (stage_view stage ∷ []) of.each
            (All-cons (IsSomePartStage job) (stage_view stage) [] (record { formula = formula_view entry.formula; is = is })
            (All-nil (IsSomePartStage job)))));
        known =
            subst (All (IsPartKnown job (stages_with job after))) (sym known)
            (All-append (IsPartKnown job (stages_with job after)) before.known.items (entry ∷ [])
            (All-weaker (IsPartKnown job (stages_with job before)) (IsPartKnown job (stages_with job after)) still_known before.known.items of.known)
            (All-cons (IsPartKnown job (stages_with job after)) entry [] new_known (All-nil (IsPartKnown job (stages_with job after)))));
        few =
            subst (λ (n : ℕ). n ≤ 65536)
            (sym (ap length all_stages ∙ length_more (stages_with job before) (stage_view stage ∷ []) ∙ ap (λ (n : ℕ). n + 1) (sym count)))
            (omega (arith, few));
      }
