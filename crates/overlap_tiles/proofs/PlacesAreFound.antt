-- A table has the place of each stage among steps, one step more at a time.
use Rattle.std.proofs.Common.{ℕ, zero, suc, arith, ◌+◌, ◌<◌, ◌≤◌, ◌≡◌, ◌≢◌, ◌⊎◌, inl, inr, Option, Some, None, List, [], ◌∷◌, ◌++◌, length}
use Rattle.std.proofs.Common.{get_or, set, replicate, map, take, refl, sym, ap, ◌∙◌, subst}
use Rattle.std.specs.Prelude.{slice_get, IfSome, IfNone}
use Rattle.std.proofs.lemmas.Bool.{cases_lt, cases_eq}
use Rattle.std.proofs.lemmas.List.{length-map, length-take, map_more}
use Rattle.std.proofs.lemmas.List.{length_push, length-replicate, get_or-replicate, get_or_past, get_or-set_same, get_or-set_other}
use Rattle.std.proofs.lemmas.Option.{same_Some, none-some}
use Rattle.domains.specs.declared.area.Area.{Area}
use Rattle.overlap_tiles.specs.Places.{IsPlaceOf, HasNoPlace}
use Rattle.overlap_tiles.specs.Views.{step_view}
use Rattle.overlap_tiles.specs.declared.steps.TileStep.{TileStep}
use Rattle.overlap_tiles.specs.inside.Placed.{stage_at, ArePlaces}

-- ---- the stages of steps

stage_in_front : (xs ys : List (ℕ × Area)) (k : ℕ) → k < length xs → stage_at (xs ++ ys) k ≡ stage_at xs k
stage_in_front [] ys k less = absurd (omega arith)
stage_in_front (x ∷ xs) ys zero less = refl
stage_in_front (x ∷ xs) ys (suc k) less = stage_in_front xs ys k (omega arith)

stage_after : (xs : List (ℕ × Area)) (s : ℕ × Area) (ys : List (ℕ × Area)) → stage_at (xs ++ s ∷ ys) (length xs) ≡ s.0
stage_after [] s ys = refl
stage_after (x ∷ xs) s ys = stage_after xs s ys

step_there : (xs : List (ℕ × Area)) (k : ℕ) → k < length xs → (area : Area) × (slice_get xs k ≡ Some (stage_at xs k, area))
step_there [] k less = absurd (omega arith)
step_there (x ∷ xs) zero less = (x.1, refl)
step_there (x ∷ xs) (suc k) less = step_there xs k (omega arith)

stage_there : (xs : List (ℕ × Area)) (k g : ℕ) (area : Area) → slice_get xs k ≡ Some (g, area) → stage_at xs k ≡ g
stage_there [] k g area there = absurd (cc)
stage_there (x ∷ xs) zero g area there = ap (λ (s : ℕ × Area). s.0) (same_Some x (g, area) there)
stage_there (x ∷ xs) (suc k) g area there = stage_there xs k g area there

-- ---- the table

-- at first no stage has a place
pub no_places : (n : ℕ) (target : ℕ × Area) → ArePlaces (target ∷ []) (replicate n None)
no_places n target =
    record { there = λ g k found. absurd (none-some k (sym (none g) ∙ found)); all = λ k less. absurd (omega arith) }
  where
    none : (g : ℕ) → ◌≡◌ {A = Option ℕ} (get_or (replicate n None) g None) None
    none g = elim (cases_lt g n) [
      | inl less ↦ get_or-replicate n g None None less
      | inr past ↦ get_or_past (replicate n None) g None (omega (arith, length-replicate {A = Option ℕ} n None))
    ]

module _ (xs : List (ℕ × Area)) (s target : ℕ × Area) (ps : List (Option ℕ)) (within : s.0 < length ps)
    (are : ArePlaces (xs ++ target ∷ []) ps) where
  own_stage : stage_at ((xs ++ s ∷ []) ++ target ∷ []) (length xs) ≡ s.0
  own_stage = stage_in_front (xs ++ s ∷ []) (target ∷ []) (length xs) (omega (arith, length_push xs s)) ∙ stage_after xs s []

  same_stage : (k : ℕ) → k < length xs → stage_at ((xs ++ s ∷ []) ++ target ∷ []) k ≡ stage_at (xs ++ target ∷ []) k
  same_stage k less =
      stage_in_front (xs ++ s ∷ []) (target ∷ []) k (omega (arith, length_push xs s)) ∙ stage_in_front xs (s ∷ []) k less
      ∙ sym (stage_in_front xs (target ∷ []) k less)

  own_place : get_or (set ps s.0 (Some (length xs))) s.0 None ≡ Some (length xs)
  own_place = get_or-set_same ps s.0 (Some (length xs)) None within

  same_place : (g : ℕ) → (g ≡ s.0 → ⊥) → get_or (set ps s.0 (Some (length xs))) g None ≡ get_or ps g None
  same_place g other = get_or-set_other ps s.0 g (Some (length xs)) None other

  placed : (g k : ℕ) → get_or (set ps s.0 (Some (length xs))) g None ≡ Some k → (g ≡ s.0) ⊎ (g ≡ s.0 → ⊥)
      → (suc k < length ((xs ++ s ∷ []) ++ target ∷ [])) × (stage_at ((xs ++ s ∷ []) ++ target ∷ []) k ≡ g)
  placed g k found (inl e) =
      let at : length xs ≡ k = same_Some (length xs) k
      (sym own_place ∙ ap (λ (n : ℕ). get_or (set ps s.0 (Some (length xs))) n None) (sym e) ∙ found) in (
        omega (arith, length_push xs s, length_push (xs ++ s ∷ []) target),
        ap (stage_at ((xs ++ s ∷ []) ++ target ∷ [])) (sym at) ∙ own_stage ∙ sym e,
      )
  placed g k found (inr other) =
      let was = are.there g k (sym (same_place g other) ∙ found) in
      let less = was.0 in
      let before : k < length xs = omega (arith, length_push xs target) in
      (omega (arith, length_push xs s, length_push (xs ++ s ∷ []) target), same_stage k before ∙ was.1)

  own_is_there : get_or (set ps s.0 (Some (length xs))) s.0 None ≢ None
  own_is_there none = none-some (length xs) (sym none ∙ own_place)

  each : (k : ℕ) → suc k < length ((xs ++ s ∷ []) ++ target ∷ []) → (k < length xs) ⊎ (length xs ≤ k)
      → get_or (set ps s.0 (Some (length xs))) (stage_at ((xs ++ s ∷ []) ++ target ∷ []) k) None ≢ None
  each k less (inl before) =
      let stage = stage_at (xs ++ target ∷ []) k in
      subst (λ (g : ℕ). get_or (set ps s.0 (Some (length xs))) g None ≢ None) (sym (same_stage k before)) (elim (cases_eq stage s.0) [
        | inl e ↦ subst (λ (g : ℕ). get_or (set ps s.0 (Some (length xs))) g None ≢ None) (sym e) own_is_there
        | inr other ↦ λ none. are.all k (omega (arith, length_push xs target)) (sym (same_place stage other) ∙ none)
      ])
  each k less (inr last) =
      let at : k ≡ length xs = omega (arith, length_push xs s, length_push (xs ++ s ∷ []) target) in
      subst (λ (g : ℕ). get_or (set ps s.0 (Some (length xs))) g None ≢ None)
      (sym (ap (stage_at ((xs ++ s ∷ []) ++ target ∷ [])) at ∙ own_stage)) own_is_there

  pub places_more : ArePlaces ((xs ++ s ∷ []) ++ target ∷ []) (set ps s.0 (Some (length xs)))
  places_more = record {
    there = λ g k found. placed g k found (cases_eq g s.0);
    all = λ k less. each k less (cases_lt k (length xs));
  }

-- one step more of a list
pub next_places : (steps : List TileStep) (i : ℕ) (step : TileStep) (ps : List (Option ℕ)) → i < length steps → step ≡ get_or steps i step
    → step.stage < length ps → ((target : ℕ × Area) → ArePlaces (map step_view (take i steps) ++ target ∷ []) ps)
    → (target : ℕ × Area) → ArePlaces (map step_view (take (i + 1) steps) ++ target ∷ []) (set ps step.stage (Some i))
next_places steps i step ps less is within are target =
    let front : List (ℕ × Area) = map step_view (take i steps) in
    let count : length front ≡ i = omega (arith, length-map (take i steps) step_view, length-take i steps) in
    let more : front ++ step_view step ∷ [] ≡ map step_view (take (i + 1) steps) =
    ap (λ (s : TileStep). front ++ step_view s ∷ []) is ∙ sym (map_more step_view steps i step less) in
    subst (λ (ss : List (ℕ × Area)). ArePlaces (ss ++ target ∷ []) (set ps step.stage (Some i))) more
    (subst (λ (n : ℕ). ArePlaces ((front ++ step_view step ∷ []) ++ target ∷ []) (set ps step.stage (Some n))) count
    (places_more front (step_view step) target ps within (are target)))

-- ---- what the table tells

pub place_told : (steps : List (ℕ × Area)) (places : List (Option ℕ)) (g : ℕ) (o : Option ℕ) → ArePlaces steps places
    → o ≡ get_or places g None → IfSome o (IsPlaceOf steps g) × IfNone o (HasNoPlace steps g)
place_told steps places g (Some k) are found =
    let at = are.there g k (sym found) in
    let less = at.0 in
    let step = step_there steps k (omega arith) in
    ((step.0, subst (λ (n : ℕ). slice_get steps k ≡ Some (n, step.0)) at.1 step.1, less), tt)
place_told steps places g None are none =
    (tt, λ k area less there. are.all k less (ap (λ (n : ℕ). get_or places n None) (stage_there steps k g area there) ∙ sym none))
