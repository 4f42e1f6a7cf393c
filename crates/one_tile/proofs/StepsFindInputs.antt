-- Where all needs are given, each step of a target finds what it reads among what the steps before it computed.
use Rattle.std.proofs.Common.{arith, ℕ, ℤ, ◌≡◌, ◌<◌, inl, inr, refl, length, Bool, true, false, not, eqb, [], ◌∷◌, Option}
use Rattle.std.proofs.Common.{Some, None, slice_get, ap, sym, ◌∙◌, subst}
use Rattle.std.specs.Prelude.{Contains, unwrap_or, if◌then◌else◌}
use Rattle.std.specs.Option.{option_map_or}
use Rattle.std.proofs.lemmas.Bool.{and_parts, not-true, false≢true}
use Rattle.std.proofs.lemmas.List.{get_or_append_left, length-append}
use Rattle.std.proofs.lemmas.Option.{slice_get_within, get_or_from_slice_get}
use Rattle.domains.proofs.Places.{slice_get-end}
use Rattle.domains.specs.Area.{HoldsPoint, IsArea}
use Rattle.domains.specs.Tiles.{tile_area, tile_at}
use Rattle.domains.specs.declared.area.Area.{Area}
use Rattle.domains.specs.declared.grid.Grid.{Grid}
use Rattle.domains.proofs.Covers.{tile_is}
use Rattle.domains.proofs.PairLists.{Contains-from_filter}
use Rattle.job.specs.Pipeline.{Body, plane, function, accumulator, Stage, Pipeline}
use Rattle.job.specs.Answers.{grid_of, has_tiles}
use Rattle.job.specs.Readers.{stage_grid, grid_at}
use Rattle.job.specs.WellFormed.{IsValued, IsReadable, IsJob}
use Rattle.tile_boxes.specs.Schedules.{is_inlined, is_function_stage, is_function_body}
use Rattle.tile_boxes.specs.Targets.{Target, IsTarget, is_function_other_than_target, boxes}
use Rattle.tile_boxes.specs.Costs.{inner_steps, steps}
use Rattle.overlap_tiles.specs.Available.{IsPlaneAt, IsInNeededTile, IsAvailable}
use Rattle.overlap_tiles.specs.Needs.{needs}
use Rattle.overlap_tiles.proofs.NeedsAreExact.{from_needs}
use Rattle.overlap_tiles.proofs.StepsHaveWhatTheyRead.{Both, both_body, reads_available, step_in_domain}
use Rattle.overlap_tiles.proofs.StepsRise.{box_listed}
use Rattle.tile_boxes.proofs.TilesAreTargets.{grid_fits}
use Rattle.tile_sources.specs.KnownTiles.{KnownTiles, IsGiven, IsGivenAt}
use Rattle.one_tile.specs.Local.{FunctionAtHand, BodyAtHand, StageAtHand, IsAtHand}
use Rattle.one_tile.specs.Runs.{NeedsGiven}
use Rattle.one_tile.specs.inside.Steps.{IsReadyOver, FindsEarlier}
use Rattle.one_tile.proofs.ValuesAreLocal.{same_stage}
use Rattle.one_tile.proofs.LocalValuesUnroll.{reads_weaker}
use Rattle.one_tile.proofs.StepsRun.{to_longer}

opposite : (b : Bool) → b ≡ true → b ≡ false → ⊥
opposite b yes_is no_is = false≢true (sym no_is ∙ yes_is)

-- a function is a stage
pub record IsFunctionStage (job : Pipeline) (g : ℕ) : Type 0 where
  pub stage : Stage
  pub there : slice_get job.stages g ≡ Some stage
  pub function : is_function_body stage.body ≡ true

pub function_stage : (job : Pipeline) (g : ℕ) → is_function_stage job g ≡ true → IsFunctionStage job g
function_stage job g is = by (slice_get job.stages g) refl is
  where
    by : (o : Option Stage) → slice_get job.stages g ≡ o → option_map_or (λ s. is_function_body s.body) o false ≡ true
        → IsFunctionStage job g
    by None there e = absurd (false≢true e)
    by (Some s) there e = record { stage = s; there = there; function = e }

inner_function : (t : Target) (s : ℕ × Area) → Contains (inner_steps t) s
    → (is_function_stage t.job s.0 ≡ true) × (is_inlined t.inlining s.0 ≡ true)
inner_function t s k =
    let inner = Contains-from_filter (λ x. is_inlined t.inlining x.0) (boxes t) s k in
    ((and_parts (is_function_stage t.job s.0) (not (eqb s.0 t.stage)) (box_listed t s inner.0).boxed).0, inner.1)

-- a step before another is inlined
step_inlined : (t : Target) (p k g h : ℕ) (a b : Area) → p < k → slice_get (steps t) k ≡ Some (g, a) → slice_get (steps t) p ≡ Some (h, b)
    → is_inlined t.inlining h ≡ true
step_inlined t p k g h a b before here there =
    let end = slice_get_within (steps t) k (g, a) here in
    let inside : p < length (inner_steps t) = omega (arith, length-append (inner_steps t) ((t.stage, t.region) ∷ [])) in
    (inner_function t (h, b) (
      p,
      inside,
      sym (get_or_append_left (inner_steps t) ((t.stage, t.region) ∷ []) (h, b) p inside)
          ∙ get_or_from_slice_get (steps t) p (h, b) (h, b) there,
    )).1

module _ (t : Target) (job : IsJob t.job) (given : KnownTiles) (are_given : NeedsGiven given (needs t)) where
  needed_stored : (h : ℕ) (r c : ℤ) → IsInNeededTile t h r c → is_inlined t.inlining h ≡ false
  needed_stored h r c n =
      let needed = from_needs t (record { stage = h; row = n.row; col = n.col }) job n.needed in
      not-true (is_inlined t.inlining h) (and_parts (is_function_other_than_target t h) (not (is_inlined t.inlining h)) needed.stored).1

  module _ (h : ℕ) (r c : ℤ) (s : Stage) (there : slice_get t.job.stages h ≡ Some s) where
    no_plane : is_function_body s.body ≡ true → IsPlaneAt t.job h → ⊥
    no_plane e p =
        let same = same_stage t.job.stages h p.stage s p.there there in
        opposite (is_function_body s.body) e (ap (λ (x : Stage). is_function_body x.body) (sym same) ∙ ap is_function_body p.plane)

    tile_given : has_tiles s.body ≡ true → HoldsPoint s.domain r c → IsInNeededTile t h r c → IsGiven given h (grid_of t.job s) r c
    tile_given has inside n =
        let grid : Grid = grid_of t.job s in
        let at : grid_at t.job h ≡ Some grid = ap (stage_grid t.job) there ∙ (λ i. if has i then Some grid else None) in
        let same : n.grid ≡ grid = ap (λ (o : Option Grid). unwrap_or o grid) (sym n.there ∙ at) in
        let tile = tile_is grid r c (grid_fits t.job h grid job at) inside in
        let only = tile.only n.row n.col (subst (λ (d : Grid). HoldsPoint (tile_area d n.row n.col) r c) same n.holds) in
        let found = are_given (record { stage = h; row = n.row; col = n.col }) n.needed in
        (found.0, sym (ap (λ (i : ℕ). given h i n.col) only.0 ∙ ap (λ (j : ℕ). given h (tile_at grid r c).0 j) only.1) ∙ found.1)

  module _ (k g : ℕ) (a : Area) (here : slice_get (steps t) k ≡ Some (g, a)) (Inner : ℕ → ℤ → ℤ → Type 0)
      (finds : FindsEarlier t.job (steps t) k Inner) where
    found : (h : ℕ) (r c : ℤ) → Both (IsAvailable t k) (IsReadable t.job.stages) h r c
        → IsAtHand t.job t.inlining given Inner h r c
    found h r c both =
        subst (λ (o : Option Stage). StageAtHand t.job t.inlining given Inner h o r c) (sym both.1.there)
        (at_body both.1.stage.body refl)
      where
        known : is_function_body both.1.stage.body ≡ true → is_inlined t.inlining h ≡ true → IsAvailable t k h r c → Inner h r c
        known e inlined (inl p) = absurd (no_plane h r c both.1.stage both.1.there e p)
        known e inlined (inr (inl q)) = finds q.place h q.area q.before q.there q.read r c q.holds
        known e inlined (inr (inr n)) = absurd (opposite (is_inlined t.inlining h) inlined (needed_stored h r c n))

        given_there : is_function_body both.1.stage.body ≡ true → has_tiles both.1.stage.body ≡ true → is_inlined t.inlining h ≡ false
            → IsAvailable t k h r c → IsGiven given h (grid_of t.job both.1.stage) r c
        given_there e has stored (inl p) = absurd (no_plane h r c both.1.stage both.1.there e p)
        given_there e has stored (inr (inl q)) =
            absurd (opposite (is_inlined t.inlining h) (step_inlined t q.place k g h a q.area q.before here q.there) stored)
        given_there e has stored (inr (inr n)) = tile_given h r c both.1.stage both.1.there has both.1.within n

        of_function : is_function_body both.1.stage.body ≡ true → has_tiles both.1.stage.body ≡ true → (b : Bool)
            → is_inlined t.inlining h ≡ b → FunctionAtHand b (Inner h r c) (IsGivenAt given h (grid_of t.job both.1.stage) r c)
        of_function e has true inlined = known e inlined both.0
        of_function e has false stored = (both.1.within, given_there e has stored both.0)

        at_body : (body : Body) → both.1.stage.body ≡ body → BodyAtHand t.job t.inlining given Inner h both.1.stage body r c
        at_body (plane n) e = both.1.within
        at_body (function ps o) e = of_function (ap is_function_body e) (ap has_tiles e) (is_inlined t.inlining h) refl
        at_body (accumulator fold bins value bin) e = absurd (subst IsValued e both.1.valued)

    ready : IsTarget t → (s : Stage) → slice_get t.job.stages g ≡ Some s → IsReadyOver t.job t.inlining given Inner g a
    ready target s there = λ r c holds.
        let inside = (step_in_domain t k g s a job target here there).1 r c holds in
        record {
          stage = s;
          there = there;
          inside = inside;
          reads = reads_weaker (Both (IsAvailable t k) (IsReadable t.job.stages)) (IsAtHand t.job t.inlining given Inner)
              found s.body r c
              (both_body (IsAvailable t k) (IsReadable t.job.stages) r c s.body (reads_available t job target k g s a here there r c holds)
              ((job.stages g s there).reads r c inside));
        }

  -- a step before the last is a function over an area
  module _ (k g : ℕ) (a : Area) (here : slice_get (inner_steps t) k ≡ Some (g, a)) where
    among : slice_get (steps t) k ≡ Some (g, a)
    among = to_longer (inner_steps t) ((t.stage, t.region) ∷ []) k (g, a) here

    pub inner_is_function : is_function_stage t.job g ≡ true
    inner_is_function = (inner_function t (g, a) (
      k,
      slice_get_within (inner_steps t) k (g, a) here,
      get_or_from_slice_get (inner_steps t) k (g, a)
          (g, a) here,
    )).0

    found_stage : IsFunctionStage t.job g
    found_stage = function_stage t.job g inner_is_function

    pub inner_area : IsTarget t → IsArea a
    inner_area target = (step_in_domain t k g found_stage.stage a job target among found_stage.there).0

    -- all that it reads is at hand where Inner tells of what the steps before it computed
    pub inner_ready : IsTarget t → (Inner : ℕ → ℤ → ℤ → Type 0) → FindsEarlier t.job (steps t) k Inner
        → IsReadyOver t.job t.inlining given Inner g a
    inner_ready target Inner finds = ready k g a among Inner finds target found_stage.stage found_stage.there

  -- and so it is with the target
  pub target_ready : IsTarget t → (Inner : ℕ → ℤ → ℤ → Type 0) → FindsEarlier t.job (steps t) (length (inner_steps t)) Inner
      → IsReadyOver t.job t.inlining given Inner t.stage t.region
  target_ready target Inner finds =
      ready (length (inner_steps t)) t.stage t.region (slice_get-end (inner_steps t) (t.stage, t.region)) Inner finds target target.owner
      target.there
