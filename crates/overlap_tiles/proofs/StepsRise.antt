-- Ranks rise along the steps of a target.
use Rattle.std.proofs.Common.{ℕ, arith, ◌<◌, ◌≤◌, ◌≡◌, inl, inr, Bool, true, false, not, eqb, Option, Some, None, [], ◌∷◌, refl, sym}
use Rattle.std.proofs.Common.{ap, ◌∙◌, subst, get_or, slice_get}
use Rattle.std.specs.Prelude.{AllPairs, Contains, if◌then◌else◌}
use Rattle.std.proofs.lemmas.Bool.{and_parts, not-true, eq-eqb, cases_lt}
use Rattle.std.proofs.lemmas.Option.{slice_get_within, get_or_from_slice_get}
use Rattle.std.proofs.lemmas.List.Elements.{Contains-append_cases}
use Rattle.std.proofs.lemmas.List.Kept.{AllPairs-filter}
use Rattle.domains.specs.declared.area.Area.{Area}
use Rattle.domains.proofs.PairLists.{Contains-cases, Contains-from_filter}
use Rattle.job.specs.Pipeline.{rank_of}
use Rattle.job.specs.Reads.{IsRanked}
use Rattle.tile_boxes.specs.Order.{ComesBefore, order_stages_by_rank}
use Rattle.tile_boxes.specs.Schedules.{is_inlined, is_function_stage}
use Rattle.tile_boxes.specs.Targets.{Target, with_number, is_function_other_than_target, numbered_box, box, boxes, region}
use Rattle.tile_boxes.specs.Costs.{inner_steps, steps}
use Rattle.tile_boxes.proofs.OrderHasEachStage.{order_pairs}
use Rattle.overlap_tiles.proofs.Lists.{Contains-from_flat_map, AllPairs-append, AllPairs-flat_map}
use Rattle.overlap_tiles.proofs.BoxesAreLower.{box_low}

-- ---- what stands in the list of boxes

pub record IsBoxOf (t : Target) (s : ℕ × Area) : Type 0 where
  pub boxed : is_function_other_than_target t s.0 ≡ true
  pub there : box t s.0 ≡ Some s.1

numbered_is : (t : Target) (g : ℕ) (s : ℕ × Area) → Contains (numbered_box t g) s → (s.0 ≡ g) × IsBoxOf t s
numbered_is t g s = by (is_function_other_than_target t g) refl (box t g) refl
  where
    by : (b : Bool) → is_function_other_than_target t g ≡ b → (o : Option Area) → box t g ≡ o → Contains (if b then with_number g o else []) s
        → (s.0 ≡ g) × IsBoxOf t s
    by false boxed o there h = absurd (omega (arith, h.1))
    by true boxed None there h = absurd (omega (arith, h.1))
    by true boxed (Some a) there h = elim (Contains-cases (g, a) [] s h) [
      | inl e ↦ (sym (ap (λ (x : ℕ × Area). x.0) e), subst (IsBoxOf t) e (record { boxed = boxed; there = there }))
      | inr k ↦ absurd (omega (arith, k.1))
    ]

pub box_listed : (t : Target) (s : ℕ × Area) → Contains (boxes t) s → IsBoxOf t s
box_listed t s h =
    let from = Contains-from_flat_map (numbered_box t) (order_stages_by_rank t.job.stages) s h in
    (numbered_is t from.0 s from.2).1

-- ---- steps

abbrev pub IsBelow : Target → ℕ × Area → ℕ × Area → Type 0
IsBelow t x y = rank_of t.job.stages x.0 ≤ rank_of t.job.stages y.0

one_rises : (t : Target) (g : ℕ) (b : Bool) (o : Option Area) → AllPairs (IsBelow t) (if b then with_number g o else [])
one_rises t g false o = λ i j d p q. absurd (omega (arith, q))
one_rises t g true None = λ i j d p q. absurd (omega (arith, q))
one_rises t g true (Some a) = λ i j d p q. absurd (omega (arith, p, q))

boxes_rise : (t : Target) → AllPairs (IsBelow t) (boxes t)
boxes_rise t =
    AllPairs-flat_map (ComesBefore t.job.stages) (IsBelow t) (numbered_box t) (order_stages_by_rank t.job.stages) (order_pairs t.job.stages)
    (λ g. one_rises t g (is_function_other_than_target t g) (box t g))
    (λ g h below x y here there.
    let first = ap (rank_of t.job.stages) (numbered_is t g x here).0 in
    let second = ap (rank_of t.job.stages) (numbered_is t h y there).0 in
    elim below [ inl less ↦ omega arith | inr both ↦ (let same = both.0 in omega arith) ])

-- one rank or number lies below the other, so that no stage has two steps before the last
abbrev ComesFirst : Target → ℕ × Area → ℕ × Area → Type 0
ComesFirst t x y = ComesBefore t.job.stages x.0 y.0

one_first : (t : Target) (g : ℕ) (b : Bool) (o : Option Area) → AllPairs (ComesFirst t) (if b then with_number g o else [])
one_first t g false o = λ i j d p q. absurd (omega (arith, q))
one_first t g true None = λ i j d p q. absurd (omega (arith, q))
one_first t g true (Some a) = λ i j d p q. absurd (omega (arith, p, q))

inner_first : (t : Target) → AllPairs (ComesFirst t) (inner_steps t)
inner_first t =
    AllPairs-filter (ComesFirst t) (λ s. is_inlined t.inlining s.0) (boxes t)
    (AllPairs-flat_map (ComesBefore t.job.stages) (ComesFirst t) (numbered_box t) (order_stages_by_rank t.job.stages) (order_pairs t.job.stages)
    (λ g. one_first t g (is_function_other_than_target t g) (box t g))
    (λ g h below x y here there.
    subst (λ (n : ℕ). ComesBefore t.job.stages n y.0) (sym (numbered_is t g x here).0)
    (subst (λ (n : ℕ). ComesBefore t.job.stages g n) (sym (numbered_is t h y there).0) below)))

not_before_itself : (t : Target) (g h : ℕ) → g ≡ h → ComesBefore t.job.stages g h → ⊥
not_before_itself t g h same before =
    let ranks = ap (rank_of t.job.stages) same in
    elim before [ inl less ↦ omega arith | inr both ↦ (let numbers = both.1 in omega arith) ]

not_earlier : (t : Target) (k n g : ℕ) (a b : Area) → slice_get (inner_steps t) k ≡ Some (g, a) → slice_get (inner_steps t) n ≡ Some (g, b)
    → k < n → ⊥
not_earlier t k n g a b here there less =
    let first : get_or (inner_steps t) k (g, b) ≡ (g, a) = get_or_from_slice_get (inner_steps t) k (g, a) (g, b) here in
    let second : get_or (inner_steps t) n (g, b) ≡ (g, b) = get_or_from_slice_get (inner_steps t) n (g, b) (g, b) there in
    not_before_itself t (get_or (inner_steps t) k (g, b)).0 (get_or (inner_steps t) n (g, b)).0
    (ap (λ (x : ℕ × Area). x.0) first ∙ sym (ap (λ (x : ℕ × Area). x.0) second))
    (inner_first t k n (g, b) less (slice_get_within (inner_steps t) n (g, b) there))

pub one_place : (t : Target) (k n g : ℕ) (a b : Area) → slice_get (inner_steps t) k ≡ Some (g, a)
    → slice_get (inner_steps t) n ≡ Some (g, b) → k ≡ n
one_place t k n g a b here there = elim (cases_lt k n) [
  | inl less ↦ absurd (not_earlier t k n g a b here there less)
  | inr most ↦ elim (cases_lt n k) [ inl less ↦ absurd (not_earlier t n k g b a there here less) | inr same ↦ omega arith ]
]

pub steps_rise : (t : Target) → IsRanked t.job.stages → AllPairs (IsBelow t) (steps t)
steps_rise t ranked =
    AllPairs-append (IsBelow t) (inner_steps t) ((t.stage, t.region) ∷ [])
    (AllPairs-filter (IsBelow t) (λ s. is_inlined t.inlining s.0) (boxes t) (boxes_rise t)) (λ i j d p q. absurd (omega (arith, p, q)))
    (λ x y here last.
    let inner = Contains-from_filter (λ s. is_inlined t.inlining s.0) (boxes t) x here in
    let low = box_low t ranked x.0 x.1 (box_listed t x inner.0).there in
    elim (Contains-cases (t.stage, t.region) [] y last) [
      | inl e ↦ (let ranks = ap (λ (z : ℕ × Area). rank_of t.job.stages z.0) e in omega arith)
      | inr k ↦ absurd (omega (arith, k.1))
    ])

-- ---- the region of a step

region_of_inner : (t : Target) (g : ℕ) → eqb g t.stage ≡ false → is_inlined t.inlining g ≡ true → region t g ≡ box t g
region_of_inner t g other inlined = λ i. if other i then Some t.region else (if inlined i then box t g else None)

region_of_target : (t : Target) (g : ℕ) → eqb g t.stage ≡ true → region t g ≡ Some t.region
region_of_target t g same = λ i. if same i then Some t.region else (if is_inlined t.inlining g then box t g else None)

pub region_of_step : (t : Target) (s : ℕ × Area) → Contains (steps t) s → region t s.0 ≡ Some s.1
region_of_step t s h = elim (Contains-append_cases (inner_steps t) ((t.stage, t.region) ∷ []) s h) [
  | inl k ↦
      (let inner = Contains-from_filter (λ x. is_inlined t.inlining x.0) (boxes t) s k in
      let listed = box_listed t s inner.0 in
      let other = not-true (eqb s.0 t.stage) (and_parts (is_function_stage t.job s.0) (not (eqb s.0 t.stage)) listed.boxed).1 in
      region_of_inner t s.0 other inner.1 ∙ listed.there)
  | inr k ↦ elim (Contains-cases (t.stage, t.region) [] s k) [
    | inl e ↦ subst (λ (x : ℕ × Area). region t x.0 ≡ Some x.1) e (region_of_target t t.stage (eq-eqb t.stage t.stage refl))
    | inr n ↦ absurd (omega (arith, n.1))
  ]
]
