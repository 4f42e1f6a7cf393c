-- The area of a stage in a list of numbered areas.
use Rattle.std.proofs.Common.{ℕ, ◌≡◌, ◌<◌, inl, inr, refl, ap, ◌∙◌, arith, Bool, true, false, eqb, List, [], ◌∷◌, ◌++◌, length}
use Rattle.std.proofs.Common.{Option, Some, None}
use Rattle.std.specs.Prelude.{Contains, find, if◌then◌else◌}
use Rattle.std.specs.List.{flat_map}
use Rattle.std.specs.Option.{option_map}
use Rattle.std.proofs.lemmas.Bool.{eqb-true, eq-eqb}
use Rattle.domains.specs.declared.area.Area.{Area}
use Rattle.domains.proofs.PairLists.{Contains-cases}
use Rattle.tile_boxes.specs.Order.{order_stages_by_rank}
use Rattle.tile_boxes.specs.Targets.{Target, with_number, is_function_other_than_target, numbered_box, box, boxes}
use Rattle.tile_boxes.proofs.OrderHasEachStage.{order_has}
use Rattle.tile_boxes.proofs.Lists.{flat_map-same}
use Rattle.overlap_tiles.specs.inside.Made.{find_stage_area_in_boxes}

module _ (f : ℕ → Option Area) (g : ℕ) where
  abbrev all_numbered : List ℕ → List (ℕ × Area)
  all_numbered hs = flat_map (λ h. with_number h (f h)) hs

  picked : (h : ℕ) (a : Area) (rest : List (ℕ × Area)) (b : Bool) → eqb h g ≡ b
      → find_stage_area_in_boxes ((h, a) ∷ rest) g ≡ (if b then Some a else find_stage_area_in_boxes rest g)
  picked h a rest b e =
      ap (λ (t : Bool). option_map (λ (x : ℕ × Area). x.1) (if t then Some (h, a) else find (λ x. eqb x.0 g) rest)) e ∙ by b
    where
      by : (t : Bool)
          → option_map (λ (x : ℕ × Area). x.1) (if t then Some (h, a) else find (λ x. eqb x.0 g) rest)
          ≡ (if t then Some a else find_stage_area_in_boxes rest g)
      by true = refl
      by false = refl

  none_in : (hs : List ℕ) → f g ≡ None → find_stage_area_in_boxes (all_numbered hs) g ≡ None
  none_in [] e = refl
  none_in (h ∷ hs) e = by (f h) refl (eqb h g) refl (none_in hs e)
    where
      by : (o : Option Area) → f h ≡ o → (b : Bool) → eqb h g ≡ b → find_stage_area_in_boxes (all_numbered hs) g ≡ None
          → find_stage_area_in_boxes (with_number h o ++ all_numbered hs) g ≡ None
      by None is b t rest = rest
      by (Some a) is true t rest = let same : f h ≡ f g = ap f (eqb-true h g t) in absurd (cc)
      by (Some a) is false t rest = picked h a (all_numbered hs) false t ∙ rest

  some_in : (hs : List ℕ) (a : Area) → f g ≡ Some a → Contains hs g → find_stage_area_in_boxes (all_numbered hs) g ≡ Some a
  some_in [] a e k = absurd (omega (arith, k.1))
  some_in (h ∷ hs) a e k = by (f h) refl (eqb h g) refl (λ m. some_in hs a e m)
    where
      by : (o : Option Area) → f h ≡ o → (b : Bool) → eqb h g ≡ b → (Contains hs g → find_stage_area_in_boxes (all_numbered hs) g ≡ Some a)
          → find_stage_area_in_boxes (with_number h o ++ all_numbered hs) g ≡ Some a
      by None is b t rest = rest (elim (Contains-cases h hs g k) [ inl s ↦ (let same : f h ≡ f g = ap f s in absurd (cc)) | inr m ↦ m ])
      by (Some x) is true t rest = let same : f h ≡ f g = ap f (eqb-true h g t) in picked h x (all_numbered hs) true t ∙ cc
      by (Some x) is false t rest =
          picked h x (all_numbered hs) false t ∙ rest
          (elim (Contains-cases h hs g k) [ inl s ↦ (let same : eqb h g ≡ true = eq-eqb h g s in absurd (cc)) | inr m ↦ m ])

  found_in : (hs : List ℕ) → Contains hs g → find_stage_area_in_boxes (all_numbered hs) g ≡ f g
  found_in hs k = by (f g) refl
    where
      by : (o : Option Area) → f g ≡ o → find_stage_area_in_boxes (all_numbered hs) g ≡ o
      by None e = none_in hs e
      by (Some a) e = some_in hs a e k

-- ---- boxes

-- the box of a function other than the target
abbrev pub shown : Target → ℕ → Option Area
shown t g = if is_function_other_than_target t g then box t g else None

numbered_if : (g : ℕ) (b : Bool) (o : Option Area) → (if b then with_number g o else []) ≡ with_number g (if b then o else None)
numbered_if g true o = refl
numbered_if g false o = refl

pub find_stage_area_in_boxes-boxes : (t : Target) (g : ℕ) → g < length t.job.stages → find_stage_area_in_boxes (boxes t) g ≡ shown t g
find_stage_area_in_boxes-boxes t g there =
    ap (λ (bs : List (ℕ × Area)). find_stage_area_in_boxes bs g)
    (flat_map-same (numbered_box t) (λ h. with_number h (shown t h)) (order_stages_by_rank t.job.stages) (λ h. numbered_if h (is_function_other_than_target t h) (box t h)))
    ∙ found_in (shown t) g (order_stages_by_rank t.job.stages) ((order_has t.job.stages g).1 there)
