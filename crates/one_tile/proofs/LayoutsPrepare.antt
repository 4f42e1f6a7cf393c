-- What the layout of a tile tells of its steps, where all that it needs is given.
use Rattle.std.proofs.Common.{arith, ℕ, suc, ℤ, ◌≡◌, ◌⊎◌, inl, inr, refl, length, Bool, true, false, List, [], ◌∷◌, ◌++◌, map}
use Rattle.std.proofs.Common.{Option, Some, None, slice_get, cond, ap, sym, ◌∙◌, subst}
use Rattle.std.specs.Prelude.{AllPairs, Contains, find, unwrap_or}
use Rattle.std.specs.Option.{is_none}
use Rattle.std.proofs.lemmas.Bool.{false≢true, true≢false}
use Rattle.std.proofs.lemmas.List.{length-append}
use Rattle.std.proofs.lemmas.Option.{none-some}
use Rattle.domains.specs.Area.{IsArea}
use Rattle.domains.specs.Tiles.{tile_area}
use Rattle.domains.specs.declared.area.Area.{Area}
use Rattle.domains.specs.declared.grid.Grid.{Grid}
use Rattle.domains.proofs.PairLists.{Contains-cases}
use Rattle.identity.specs.declared.key.Key.{Key}
use Rattle.job.specs.Answers.{Tile}
use Rattle.job.specs.Pipeline.{Pipeline}
use Rattle.job.specs.WellFormed.{IsJob}
use Rattle.tile_boxes.specs.Costs.{inner_steps, steps}
use Rattle.tile_boxes.specs.Schedules.{is_function_stage}
use Rattle.tile_boxes.specs.Targets.{Target, IsTarget, target_over}
use Rattle.overlap_tiles.specs.declared.steps.TileStep.{TileStep}
use Rattle.overlap_tiles.specs.Needs.{key_tile, needs}
use Rattle.overlap_tiles.specs.Plans.{TileLayout, IsTileAt, IsTileLayout}
use Rattle.overlap_tiles.specs.Views.{step_view}
use Rattle.overlap_tiles.proofs.Lists.{Contains-from_map}
use Rattle.overlap_tiles.proofs.TilesAreTargets.{tile_is_target}
use Rattle.tile_eval.specs.Raster.{raster}
use Rattle.tile_sources.specs.KnownTiles.{KnownTiles}
use Rattle.one_tile.specs.Local.{local_value}
use Rattle.one_tile.specs.Runs.{is_missing, first_missing, NeedsGiven, AreLocalOn}
use Rattle.one_tile.specs.Prepared.{IsInnerStep}
use Rattle.one_tile.specs.inside.Steps.{FindsEarlier, IsReadyOver}
use Rattle.one_tile.proofs.StepsFindInputs.{inner_is_function, inner_area, inner_ready, target_ready}
use Rattle.one_tile.proofs.StepsRun.{inner_at, steps_long}

pub none_found : {X : Type 0} → (p : X → Bool) (xs : List X) → find p xs ≡ None → (x : X) → Contains xs x → p x ≡ false
none_found p [] e x h = absurd (omega (arith, h.1))
none_found p (y ∷ ys) e x h = by (p y) refl e (λ rest. none_found p ys rest x)
  where
    by : (b : Bool) → p y ≡ b → cond b (Some y) (find p ys) ≡ None → (find p ys ≡ None → Contains ys x → p x ≡ false) → p x ≡ false
    by true is e later = absurd (none-some y (sym e))
    by false is e later = elim (Contains-cases y ys x h) [ inl same ↦ ap p (sym same) ∙ is | inr k ↦ later e k ]

-- what is found first is the least, where the list rises
tail_rises : {X : Type 0} → (R : X → X → Type 0) (y : X) (ys : List X) → AllPairs R (y ∷ ys) → AllPairs R ys
tail_rises R y ys all = λ i j d less there. all (suc i) (suc j) d (omega arith) (omega arith)

pub found_least : {X : Type 0} → (R : X → X → Type 0) (p : X → Bool) (xs : List X) → AllPairs R xs → (x z : X) → find p xs ≡ Some x
    → Contains xs z → p z ≡ true → (z ≡ x) ⊎ R x z
found_least R p [] all x z e h t = absurd (omega (arith, h.1))
found_least R p (y ∷ ys) all x z e h t = by (p y) refl e (λ rest k. found_least R p ys (tail_rises R y ys all) x z rest k t)
  where
    behind : Contains ys z → R y z
    behind k = subst (λ w. R y w) k.2 (all 0 (suc k.0) z (omega arith) (omega (arith, k.1)))

    by : (b : Bool) → p y ≡ b → cond b (Some y) (find p ys) ≡ Some x → (find p ys ≡ Some x → Contains ys z → (z ≡ x) ⊎ R x z)
        → (z ≡ x) ⊎ R x z
    by true is e later =
        let same : y ≡ x = ap (λ o. unwrap_or o x) e in
        elim (Contains-cases y ys z h) [ inl k ↦ inl (sym k ∙ same) | inr k ↦ inr (subst (λ w. R w z) same (behind k)) ]
    by false is e later = elim (Contains-cases y ys z h) [ inl k ↦ absurd (false≢true (sym is ∙ ap p k ∙ t)) | inr k ↦ later e k ]

some_of : (o : Option (List ℤ)) → is_none o ≡ false → (xs : List ℤ) × (o ≡ Some xs)
some_of None e = absurd (true≢false e)
some_of (Some xs) e = (xs, refl)

-- a list of steps that has a last one
pub not_empty : (steps : List TileStep) (inner : List (ℕ × Area)) (last : ℕ × Area) → steps ≡ [] → map step_view steps ≡ inner ++ last ∷ [] → ⊥
not_empty steps inner last none are =
    let size : length (map step_view steps) ≡ length (inner ++ last ∷ []) = ap length are in
    let zero_long : length (map step_view steps) ≡ 0 = ap (λ (ss : List TileStep). length (map step_view ss)) none in
    absurd (omega (arith, size, zero_long, length-append inner (last ∷ [])))

-- where no key is missing, the tile of each is given
pub keys_given : (given : KnownTiles) (keys : List Key) → first_missing given keys ≡ None → NeedsGiven given (map key_tile keys)
keys_given given keys none n needed =
    let key = Contains-from_map key_tile keys n needed in
    let found = some_of (given key.0.stage key.0.row key.0.col) (none_found (is_missing given) keys none key.0 key.1) in
    (found.0, ap (λ (m : Tile). given m.stage m.row m.col) (sym key.2) ∙ found.1)

module _ (job : Pipeline) (inlining : List Bool) (given : KnownTiles) (l : TileLayout) (g i j : ℕ) (is : IsTileLayout job inlining g i j l)
  where
    abbrev of_tile : Target
    of_tile = target_over job inlining g is.area

    target : IsJob job → IsTarget of_tile
    target good = tile_is_target job inlining g i j is.area good is.tile

    pub layout_steps : l.steps ≡ inner_steps of_tile ++ (g, is.area) ∷ []
    layout_steps = is.layout.layout.steps

    gives : NeedsGiven given l.needs → NeedsGiven given (needs of_tile)
    gives are_given = subst (NeedsGiven given) is.layout.layout.needs are_given

    -- a layout knows the inlining that it was made by
    pub own_layout : IsTileLayout job l.inlining g i j l
    own_layout = subst (λ (flags : List Bool). IsTileLayout job flags g i j l) (sym is.layout.layout.inlining) is

    pub by_own : (P : List Bool → Type 0) → P l.inlining → P inlining
    by_own P h = subst P is.layout.layout.inlining h

    pub layout_area : IsJob job → IsArea is.area
    layout_area good = (target good).area

    -- the areas of one tile are the same
    pub only_area : (area : Area) → IsTileAt job g i j area → is.area ≡ area
    only_area area at =
        let grid : is.tile.grid ≡ at.grid = ap (λ (o : Option Grid). unwrap_or o at.grid) (sym is.tile.there ∙ at.there) in
        is.tile.is ∙ ap (λ (d : Grid). tile_area d i j) grid ∙ sym at.is

    -- a step before the last: a function over an area, and all that it reads is at hand once it finds what the steps before it computed
    module _ (k h : ℕ) (a : Area) (here : IsInnerStep l k h a) where
      inner : slice_get (inner_steps of_tile) k ≡ Some (h, a)
      inner = inner_at of_tile l given is.layout.layout k h a here

      pub inner_function : (good : IsJob job) → NeedsGiven given l.needs → is_function_stage job h ≡ true
      inner_function good are_given = inner_is_function of_tile good given (gives are_given) k h a inner

      pub inner_is_area : (good : IsJob job) → NeedsGiven given l.needs → IsArea a
      inner_is_area good are_given = inner_area of_tile good given (gives are_given) k h a inner (target good)

      pub inner_prepared : (good : IsJob job) → NeedsGiven given l.needs → (Inner : ℕ → ℤ → ℤ → Type 0)
          → FindsEarlier job l.steps k Inner → IsReadyOver job inlining given Inner h a
      inner_prepared good are_given Inner finds =
          inner_ready of_tile good given (gives are_given) k h a inner (target good) Inner
          (subst (λ (ss : List (ℕ × Area)). FindsEarlier job ss k Inner) layout_steps finds)

    -- after them all that the tile reads is at hand
    pub layout_ready : (good : IsJob job) → NeedsGiven given l.needs → (Inner : ℕ → ℤ → ℤ → Type 0) (k : ℕ) → suc k ≡ length l.steps
        → FindsEarlier job l.steps k Inner → (area : Area) → IsTileAt job g i j area → IsReadyOver job inlining given Inner g area
    layout_ready good are_given Inner k end finds area at =
        let last : k ≡ length (inner_steps of_tile) = omega (arith, end, steps_long of_tile l given is.layout.layout) in
        subst (IsReadyOver job inlining given Inner g) (only_area area at)
        (target_ready of_tile good given (gives are_given) (target good) Inner
        (subst (λ (n : ℕ). FindsEarlier job (steps of_tile) n Inner) last
        (subst (λ (ss : List (ℕ × Area)). FindsEarlier job ss k Inner) layout_steps finds)))

    pub layout_values : (last : ℕ × Area) (numbers : List ℤ) → last ≡ (g, is.area)
        → numbers ≡ raster last.1 (local_value job inlining given last.0) → AreLocalOn job inlining given g i j numbers
    layout_values last numbers end values area at =
        values ∙ ap (λ (x : ℕ × Area). raster x.1 (local_value job inlining given x.0)) end
        ∙ ap (λ (a : Area). raster a (local_value job inlining given g)) (only_area area at)
