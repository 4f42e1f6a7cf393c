-- What is asked for makes a schedule; so does nothing.
use Rattle.std.proofs.Common.{ℕ, ◌+◌, ◌<◌, ◌≤◌, arith, below_more, ◌≡◌, ◌⊎◌, inl, inr, Bool, true, false, ◌&&◌, List, [], ◌∷◌}
use Rattle.std.proofs.Common.{cond, filter, get_or, map, length, refl, ap, sym, subst, ◌∙◌}
use Rattle.std.proofs.lemmas.Bool.{false≢true, and_parts, cases_lt}
use Rattle.std.proofs.Math.ListN as lists
use Rattle.std.proofs.lemmas.List.{length-map, get_or_past}
use Rattle.std.proofs.lemmas.List.FromFn.{get_or-map-range_with_len, length-map-range_with_len}
use Rattle.job.specs.Pipeline.{Stage, Pipeline}
use Rattle.tile_boxes.specs.Schedules.{is_inlined, is_function_stage, IsSchedule, inlining_for, all_stored}
use Rattle.std.proofs.lemmas.List.Elements.{All-map}
use Rattle.domains.specs.Tiles.{tile_area, tiles_of}
use Rattle.job.specs.Answers.{grid_of, is_output}
use Rattle.tile_boxes.specs.Targets.{Target, boxes}
use Rattle.tile_boxes.specs.Costs.{points_in, scratch, most_scratch}
use Rattle.tile_boxes.specs.Costs.{AllFitScratch}
use Rattle.tile_boxes.specs.Schedules.{StoresOutputs, IsInlinedOutput}

pub none_inlined : (stages : List Stage) (g : ℕ) → is_inlined (map (λ s. false) stages) g ≡ false
none_inlined [] g = refl
none_inlined (s ∷ stages) g = lists.get_or-map (λ (x : Stage). false) (s ∷ stages) g s

-- a schedule may inline nothing
pub stored_is : (job : Pipeline) → IsSchedule job (all_stored job)
stored_is job =
    record {
      each = length-map job.stages (λ s. false);
      functions = λ g inlined. absurd (false≢true (sym (none_inlined job.stages g) ∙ inlined));
      inner = λ g inlined. absurd (false≢true (sym (none_inlined job.stages g) ∙ inlined));
    }

-- what is inlined where these are asked for
pub asked_at : (job : Pipeline) (asked : List Bool) (g : ℕ) → g < length job.stages
    → is_inlined (inlining_for job asked) g ≡ (is_inlined asked g && is_function_stage job g)
asked_at job asked g below =
    get_or-map-range_with_len (λ k. is_inlined asked k && is_function_stage job k) 0 (length job.stages) g g false below
    (let e : 0 + g ≡ g = omega arith in e)

pub asked_past : (job : Pipeline) (asked : List Bool) (g : ℕ) → length job.stages ≤ g → is_inlined (inlining_for job asked) g ≡ false
asked_past job asked g past =
    get_or_past (inlining_for job asked) g false (subst (λ (n : ℕ). n ≤ g)
    (sym (length-map-range_with_len (λ k. is_inlined asked k && is_function_stage job k) 0 (length job.stages))) past)

-- only functions are inlined
functions_alone : (job : Pipeline) (asked : List Bool) (g : ℕ) → is_inlined (inlining_for job asked) g ≡ true → is_function_stage job g ≡ true
functions_alone job asked g inlined = by (cases_lt g (length job.stages))
  where
    by : (g < length job.stages) ⊎ (length job.stages ≤ g) → is_function_stage job g ≡ true
    by (inl below) = (and_parts (is_inlined asked g) (is_function_stage job g) (sym (asked_at job asked g below) ∙ inlined)).1
    by (inr past) = absurd (false≢true (sym (asked_past job asked g past) ∙ inlined))

-- ---- outputs that are asked for

module _ (job : Pipeline) (asked : List Bool) where
  -- none of the first n stages is one
  abbrev pub NoneBelow : ℕ → Type 0
  NoneBelow n = (k : ℕ) → k < n → is_inlined (inlining_for job asked) k ≡ true → is_output job k ≡ false

  pub none_more : (n : ℕ) → n < length job.stages → NoneBelow n
      → ((is_inlined asked n && is_function_stage job n) ≡ true → is_output job n ≡ false) → NoneBelow (n + 1)
  none_more n below none here = below_more _ _ none (λ inlined. here (sym (asked_at job asked n below) ∙ inlined))

  pub first_is : (n : ℕ) → n < length job.stages → NoneBelow n → (is_inlined asked n && is_function_stage job n) ≡ true
      → is_output job n ≡ true → IsInlinedOutput job (inlining_for job asked) n
  first_is n below none inlined output =
      record { inlined = asked_at job asked n below ∙ inlined; output = output; least = none }

  pub none_at_all : (n : ℕ) → length job.stages ≤ n → NoneBelow n → StoresOutputs job (inlining_for job asked)
  none_at_all n past none g inlined = elim (cases_lt g n) [
    | inl below ↦ none g below inlined
    | inr more ↦ absurd (false≢true (sym (asked_past job asked g (omega arith)) ∙ inlined))
  ]

pub asked_is : (job : Pipeline) (asked : List Bool) → StoresOutputs job (inlining_for job asked) → IsSchedule job (inlining_for job asked)
asked_is job asked inner =
    record {
      each = length-map-range_with_len (λ k. is_inlined asked k && is_function_stage job k) 0 (length job.stages);
      functions = functions_alone job asked;
      inner = inner;
    }

-- ---- room in scratch memory

filter_none : {X : Type 0} (p : X → Bool) (xs : List X) → ((x : X) → p x ≡ false) → filter p xs ≡ []
filter_none p [] h = refl
filter_none p (x ∷ xs) h = ap (λ b. cond b (x ∷ filter p xs) (filter p xs)) (h x) ∙ filter_none p xs h

-- where nothing is inlined nothing lies in scratch memory
pub none_takes_none : (t : Target) → ((g : ℕ) → is_inlined t.inlining g ≡ false) → scratch t ≡ 0
none_takes_none t none = ap points_in (filter_none (λ s. is_inlined t.inlining s.0) (boxes t) (λ s. none s.0))

pub stored_fits : (job : Pipeline) → AllFitScratch job (all_stored job)
stored_fits job g s there has =
    let make : ℕ × ℕ → Target =
    λ x. record { job = job; inlining = all_stored job; stage = g; region = tile_area (grid_of job s) x.0 x.1 } in
    All-map (λ t. scratch t ≤ most_scratch) make (tiles_of (grid_of job s))
    (λ k d below. let e : scratch (make (get_or (tiles_of (grid_of job s)) k d)) ≡ 0 =
    none_takes_none (make (get_or (tiles_of (grid_of job s)) k d)) (none_inlined job.stages) in
    subst (λ (n : ℕ). n ≤ most_scratch) (sym e) (omega arith))
