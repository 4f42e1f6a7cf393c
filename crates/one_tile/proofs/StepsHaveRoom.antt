-- More room for the operands of a step is room too; and the least room for those of several steps.
use Rattle.std.proofs.Common.{◌≡◌, ◌∙◌, arith, ℕ, zero, suc, ◌+◌, ◌-◌, ◌<◌, ◌≤◌, ◌^◌, ◌++◌, add-one, false, true, get_or, max, List, [], ◌∷◌, Option, Some, None, length, map, take, ap, subst, sym}
use Rattle.std.specs.Prelude.{All, slice_get}
use Rattle.std.specs.Option.{option_map_or}
use Rattle.std.proofs.lemmas.Bool.{false≢true}
use Rattle.std.proofs.lemmas.List.Elements.{All-get_or, All-map, All-nil, All-pop, All-push, All-same, All-weaker}
use Rattle.std.proofs.lemmas.List.{take_all}
use Rattle.std.proofs.lemmas.Option.{same_Some}
use Rattle.std.proofs.Math.Seq.{take-suc}
use Rattle.domains.specs.Span.{len_of}
use Rattle.domains.specs.declared.area.Area.{Area}
use Rattle.job.specs.Formula.{Formula}
use Rattle.job.specs.Pipeline.{Body, JobCase, Pipeline, Stage, accumulator, function, plane}
use Rattle.job.proofs.Steps.{All-from_map}
use Rattle.overlap_tiles.specs.Views.{step_view}
use Rattle.overlap_tiles.specs.declared.steps.TileStep.{TileStep}
use Rattle.tile_boxes.specs.Schedules.{is_function_body, is_function_stage}
use Rattle.tile_eval.specs.Counted.{IsLeast}
use Rattle.tile_eval.specs.Reading.{HasRoom, HasFunctionRoom}
use Rattle.tile_eval.proofs.Gathering.{room_less}
use Rattle.one_tile.specs.inside.Steps.{HasStepRoom, HasStepsRoom, IsFunctionAt}

function_more : (ps : List JobCase) (o : Option Formula) (n room more : ℕ) → room ≤ more → HasFunctionRoom n room ps o
    → HasFunctionRoom n more ps o
function_more ps o n room more enough has =
    let row = has.row in
    let same : n ≤ n = omega arith in
    let beside : room - n ≤ more - n = omega arith in
    record {
      row = omega arith;
      operands = All-weaker (λ (p : JobCase). HasRoom p.formula n (room - n)) (λ (p : JobCase). HasRoom p.formula n (more - n))
          (λ p h. room_less p.formula n n (room - n) (more - n) same beside h) ps has.operands;
      other = λ f is. room_less f n n room more same enough (has.other f is);
    }

pub step_more : (job : Pipeline) (step : ℕ × Area) (room more : ℕ) → room ≤ more → HasStepRoom job step room → HasStepRoom job step more
step_more job step room more enough has = λ cases otherwise at.
    function_more cases otherwise (len_of step.1.cols) room more enough (has cases otherwise at)

-- ---- the least room

same_least : (P Q : ℕ → Type 0) (found : Option ℕ) → ((m : ℕ) → P m → Q m) → ((m : ℕ) → Q m → P m) → IsLeast P found → IsLeast Q found
same_least P Q None to from is = record { some = tt; least = tt; none = λ m h. is.none m (from m h) }
same_least P Q (Some n) to from is = record { some = to n is.some; least = λ m h. is.least m (from m h); none = tt }

abbrev BodyHasRoom : ℕ → ℕ → Body → Type 0
BodyHasRoom n room (plane x) = Unit {0}
BodyHasRoom n room (function cases otherwise) = HasFunctionRoom n room cases otherwise
BodyHasRoom n room (accumulator way bins value bin) = Unit {0}

function_room : (job : Pipeline) (step : ℕ × Area) (cases : List JobCase) (otherwise : Option Formula) (room : ℕ)
    → IsFunctionAt job step.0 cases otherwise → HasFunctionRoom (len_of step.1.cols) room cases otherwise → HasStepRoom job step room
function_room job step cases otherwise room at has others other there =
    let same : at.stage ≡ there.stage = same_Some at.stage there.stage (sym at.there ∙ there.there) in
    subst (BodyHasRoom (len_of step.1.cols) room) (sym at.body ∙ ap (λ (s : Stage). s.body) same ∙ there.body) has

pub function_least : (job : Pipeline) (step : ℕ × Area) (n : ℕ) (cases : List JobCase) (otherwise : Option Formula) (found : Option ℕ)
    → n ≡ len_of step.1.cols → IsFunctionAt job step.0 cases otherwise → IsLeast (λ room. HasFunctionRoom n room cases otherwise) found
    → IsLeast (HasStepRoom job step) found
function_least job step n cases otherwise found along at is =
    same_least (λ room. HasFunctionRoom (len_of step.1.cols) room cases otherwise) (HasStepRoom job step) found
    (λ room has. function_room job step cases otherwise room at has) (λ room has. has cases otherwise at)
    (subst (λ (m : ℕ). IsLeast (λ room. HasFunctionRoom m room cases otherwise) found) along is)

is_function : (job : Pipeline) (g : ℕ) (cases : List JobCase) (otherwise : Option Formula) → IsFunctionAt job g cases otherwise
    → is_function_stage job g ≡ true
is_function job g cases otherwise at =
    ap (λ (o : Option Stage). option_map_or (λ (s : Stage). is_function_body s.body) o false) at.there ∙ ap is_function_body at.body

-- a stage that is no function needs none
pub none_least : (job : Pipeline) (step : ℕ × Area) → is_function_stage job step.0 ≡ false → IsLeast (HasStepRoom job step) (Some 0)
none_least job step none = record {
  some = λ cases otherwise at. absurd (false≢true (sym none ∙ is_function job step.0 cases otherwise at));
  least = λ m h. omega arith;
  none = tt;
}

-- ---- several steps

abbrev StepHas : Pipeline → ℕ → TileStep → Type 0
StepHas job room step = HasStepRoom job (step_view step) room

-- the least room for the first steps
abbrev pub FirstLeast : Pipeline → List TileStep → ℕ → ℕ → Type 0
FirstLeast job steps i room = IsLeast (λ m. All (StepHas job m) (take i steps)) (Some room)

pub no_steps_least : (job : Pipeline) (steps : List TileStep) → FirstLeast job steps 0 0
no_steps_least job steps = record { some = All-nil (StepHas job 0); least = λ m h. omega arith; none = tt }

one_more : (steps : List TileStep) (i : ℕ) (step : TileStep) → i < length steps → step ≡ get_or steps i step
    → take (i + 1) steps ≡ take i steps ++ step ∷ []
one_more steps i step within is =
    ap (λ (n : ℕ). take n steps) (add-one i) ∙ take-suc steps i step within ∙ ap (λ (s : TileStep). take i steps ++ s ∷ []) (sym is)

pub one_step_more : (job : Pipeline) (steps : List TileStep) (i : ℕ) (step : TileStep) (room own most : ℕ) → i < length steps
    → step ≡ get_or steps i step → most ≡ max own room → FirstLeast job steps i room → IsLeast (HasStepRoom job (step_view step)) (Some own)
    → FirstLeast job steps (i + 1) most
one_step_more job steps i step room own most within is greatest first last =
    let longer = one_more steps i step within is in
    record {
      some = All-same (StepHas job most) (take (i + 1) steps) (take i steps ++ step ∷ []) longer
          (All-push (StepHas job most) (take i steps) step
          (All-weaker (StepHas job room) (StepHas job most) (λ s. step_more job (step_view s) room most (omega (arith, greatest))) (take i steps) first.some)
          (step_more job (step_view step) own most (omega (arith, greatest)) last.some));
      least = λ m h.
          let each = All-pop (StepHas job m) (take (i + 1) steps) (take i steps) (Some step) longer h in
          omega (arith, greatest, first.least m each.0, last.least m each.1);
      none = tt;
    }

pub all_steps_least : (job : Pipeline) (steps : List TileStep) (i room : ℕ) → length steps ≤ i → FirstLeast job steps i room
    → IsLeast (HasStepsRoom job (map step_view steps)) (Some room)
all_steps_least job steps i room past first =
    same_least (λ m. All (StepHas job m) (take i steps)) (HasStepsRoom job (map step_view steps)) (Some room)
    (λ m h. All-map (λ s. HasStepRoom job s m) step_view steps (subst (All (StepHas job m)) (take_all i steps past) h))
    (λ m h. subst (All (StepHas job m)) (sym (take_all i steps past)) (All-from_map (λ s. HasStepRoom job s m) step_view steps h))
    first

pub no_least_of_steps : (job : Pipeline) (steps : List TileStep) (i : ℕ) (step : TileStep) (found : Option ℕ) → found ≡ None
    → i < length steps → step ≡ get_or steps i step → IsLeast (HasStepRoom job (step_view step)) None
    → IsLeast (HasStepsRoom job (map step_view steps)) found
no_least_of_steps job steps i step found nothing within is own =
    subst (IsLeast (HasStepsRoom job (map step_view steps))) (sym nothing) (record {
      some = tt;
      least = tt;
      none = λ m h.
          own.none m (subst (StepHas job m) (sym is) (All-get_or (StepHas job m) steps i step within (All-from_map (λ s. HasStepRoom job s m) step_view steps h)));
    })
