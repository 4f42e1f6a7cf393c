-- Steps, one after another, each in its range of scratch memory.
use Rattle.std.proofs.Common.{arith, ℕ, ℤ, ◌≡◌, ◌<◌, ◌≤◌, ◌+◌, ◌⊎◌, inl, inr, refl, length, map, List, [], ◌∷◌, ◌++◌}
use Rattle.std.proofs.Common.{Option, Some, None, slice_get, slice_index_or, ap, sym, ◌∙◌, subst}
use Rattle.std.specs.Prelude.{unwrap_or}
use Rattle.std.specs.Option.{option_map}
use Rattle.std.proofs.lemmas.Bool.{cases_lt}
use Rattle.std.proofs.lemmas.List.{get_or_append_left, length-append}
use Rattle.std.proofs.lemmas.Option.{none-some, slice_get-map, slice_get_read, slice_get_within, slice_get-get_or, get_or_from_slice_get}
use Rattle.domains.proofs.Places.{all_at}
use Rattle.domains.specs.Area.{HoldsPoint, IsArea, IsSubarea, point_count}
use Rattle.domains.specs.declared.area.Area.{Area}
use Rattle.job.specs.Pipeline.{Body, plane, Stage, Pipeline}
use Rattle.job.specs.WellFormed.{picture_area, IsBody, IsJob}
use Rattle.tile_boxes.specs.Costs.{inner_steps, steps}
use Rattle.tile_boxes.specs.Targets.{Target}
use Rattle.overlap_tiles.specs.declared.steps.TileStep.{TileStep}
use Rattle.overlap_tiles.specs.Lives.{IsReadAt}
use Rattle.overlap_tiles.specs.Plans.{TileLayout, IsLayout}
use Rattle.overlap_tiles.specs.Views.{step_view}
use Rattle.overlap_tiles.proofs.StepsHaveWhatTheyRead.{lives_last}
use Rattle.overlap_tiles.proofs.StepsRise.{one_place}
use Rattle.row_kernels.proofs.Places.{place_below}
use Rattle.tile_eval.specs.Raster.{place_of}
use Rattle.tile_eval.specs.Rows.{at}
use Rattle.one_tile.specs.declared.scratch_view.TileScratchView.{TileScratchView}
use Rattle.tile_sources.specs.KnownTiles.{KnownTiles}
use Rattle.one_tile.specs.Local.{local_value}
use Rattle.one_tile.specs.Prepared.{IsLent, IsInnerStep, HasBox, IsBoxed}
use Rattle.one_tile.specs.inside.Steps.{FindsEarlier, IsComputed, AreComputed, AreLent}

-- ---- stages

-- planes of the picture have its sides
abbrev pub PlanesLie : Pipeline → Type 0
PlanesLie job =
    (g n : ℕ) (s : Stage) → slice_get job.stages g ≡ Some s → s.body ≡ plane n
    → (n < length job.picture.planes) × IsSubarea s.domain (picture_area job.picture)

-- domains are areas
abbrev pub HaveAreas : Pipeline → Type 0
HaveAreas job = (g : ℕ) (s : Stage) → slice_get job.stages g ≡ Some s → IsArea s.domain

module _ (job : Pipeline) (is : IsJob job) where
  pub have_areas : HaveAreas job
  have_areas g s there = let stage = is.stages g s there in record { rows = stage.rows.span; cols = stage.cols.span }

  pub planes_lie : PlanesLie job
  planes_lie g n s there plane_is =
      let body = subst (λ (b : Body). IsBody job.picture s.domain b) plane_is (is.stages g s there).body in
      (body.0, λ r c holds. subst (λ (a : Area). HoldsPoint a r c) body.1 holds)

-- the step at a place of a list
pub step_at : (steps : List TileStep) (k : ℕ) (s : TileStep) → k < length steps → s ≡ slice_index_or steps k s
    → slice_get (map step_view steps) k ≡ Some (step_view s)
step_at steps k s there is =
    slice_get-map step_view steps k ∙ ap (option_map step_view) (slice_get_read steps (length steps) k s refl there is)

-- ---- the first steps of a list

module _ (xs ys : List (ℕ × Area)) where
  pub to_longer : (k : ℕ) (x : ℕ × Area) → slice_get xs k ≡ Some x → slice_get (xs ++ ys) k ≡ Some x
  to_longer k x is =
      let there = slice_get_within xs k x is in
      slice_get-get_or (xs ++ ys) k x (omega (arith, length-append xs ys))
      ∙ ap Some (get_or_append_left xs ys x k there ∙ get_or_from_slice_get xs k x x is)

  pub from_longer : (k : ℕ) (x : ℕ × Area) → k < length xs → slice_get (xs ++ ys) k ≡ Some x → slice_get xs k ≡ Some x
  from_longer k x there is =
      slice_get-get_or xs k x there ∙ ap Some (sym (get_or_append_left xs ys x k there) ∙ get_or_from_slice_get (xs ++ ys) k x x is)

-- ---- ranges

-- the range of the step at place k: as long as its area has points, and within so much memory
pub record HasRange (l : TileLayout) (k : ℕ) (area : Area) : Type 0 where
  pub range : ℕ × ℕ
  pub there : slice_get l.ranges k ≡ Some range
  pub len : range.1 ≡ point_count area
  pub within : range.0 + range.1 ≤ l.scratch

-- no place of the first range lies from start up to end
abbrev pub LiesOff : ℕ × ℕ → ℕ → ℕ → Type 0
LiesOff range start end = (range.0 + range.1 ≤ start) ⊎ (end ≤ range.0)

module _ (t : Target) (l : TileLayout) (given : KnownTiles) (is : IsLayout t l) where
  steps_are : l.steps ≡ inner_steps t ++ (t.stage, t.region) ∷ []
  steps_are = is.steps

  pub steps_long : length l.steps ≡ length (inner_steps t) + 1
  steps_long = ap length steps_are ∙ length-append (inner_steps t) ((t.stage, t.region) ∷ [])

  pub inner_at : (k g : ℕ) (a : Area) → IsInnerStep l k g a → slice_get (inner_steps t) k ≡ Some (g, a)
  inner_at k g a inner =
      from_longer (inner_steps t) ((t.stage, t.region) ∷ []) k (g, a) (omega (arith, inner.0, steps_long))
      (ap (λ (ss : List (ℕ × Area)). slice_get ss k) (sym steps_are) ∙ inner.1)

  pub range_at : (k g : ℕ) (a : Area) → IsInnerStep l k g a → HasRange l k a
  range_at k g a inner = by (slice_get l.ranges k) refl
    where
      lengths : option_map (λ (r : ℕ × ℕ). r.1) (slice_get l.ranges k) ≡ Some (point_count a)
      lengths =
          sym (slice_get-map (λ (r : ℕ × ℕ). r.1) l.ranges k) ∙ ap (λ (ns : List ℕ). slice_get ns k) is.ranges.lengths
          ∙ slice_get-map (λ (s : ℕ × Area). point_count s.1) (inner_steps t) k
          ∙ ap (option_map (λ (s : ℕ × Area). point_count s.1)) (inner_at k g a inner)

      by : (o : Option (ℕ × ℕ)) → slice_get l.ranges k ≡ o → HasRange l k a
      by None there = absurd (none-some (point_count a) (ap (option_map (λ (r : ℕ × ℕ). r.1)) (sym there) ∙ lengths))
      by (Some range) there = record {
        range = range;
        there = there;
        len = ap (λ (o : Option ℕ). unwrap_or o range.1) (ap (option_map (λ (r : ℕ × ℕ). r.1)) (sym there) ∙ lengths);
        within = all_at (λ (r : ℕ × ℕ). r.0 + r.1 ≤ l.scratch) l.ranges k range is.ranges.within there;
      }

  same_area : (k g h : ℕ) (a b : Area) → slice_get l.steps k ≡ Some (g, a) → slice_get l.steps k ≡ Some (h, b) → a ≡ b
  same_area k g h a b here there = ap (λ (o : Option (ℕ × Area)). (unwrap_or o (h, b)).1) (sym here ∙ there)

  only_place : (k p g : ℕ) (a b : Area) → IsInnerStep l k g b → IsInnerStep l p g a → (k ≡ p) × (b ≡ a)
  only_place k p g a b one other =
      let places = one_place t k p g b a (inner_at k g b one) (inner_at p g a other) in
      (places, same_area p g g b a (subst (λ (n : ℕ). slice_get l.steps n ≡ Some (g, b)) places one.1) other.1)

  -- what is still read lies off the range of the step at place m
  pub lies_off : (p m n : ℕ) (range mine : ℕ × ℕ) → p < m → m ≤ n → IsReadAt t.job l.steps p n → slice_get l.ranges p ≡ Some range
      → slice_get l.ranges m ≡ Some mine → LiesOff range mine.0 (mine.0 + mine.1)
  lies_off p m n range mine before upto read here there =
      is.ranges.apart p m range mine before here there
      (lives_last t.job (steps t) p m n before upto (subst (λ (ss : List (ℕ × Area)). IsReadAt t.job ss p n) is.steps read))

  -- ---- what a step finds

  module _ (memory : List ℤ) (boxes : TileScratchView) (start m : ℕ) (lent' : AreLent memory boxes start) (size : l.scratch ≤ length memory)
      (few : m < length l.steps) (done : AreComputed t.job l given memory m)
      (off : (p : ℕ) (range : ℕ × ℕ) → p < m → IsReadAt t.job l.steps p m → slice_get l.ranges p ≡ Some range
      → LiesOff range start boxes.end) where
    has_box : (p h : ℕ) (a : Area) → p < m → slice_get l.steps p ≡ Some (h, a) → IsReadAt t.job l.steps p m → (r c : ℤ) → HoldsPoint a r c
        → HasBox l boxes p a r c (local_value t.job l.inlining given h r c)
    has_box p h a before there read r c holds =
        let own = range_at p h a (omega (arith, before, few), there) in
        let within = own.within in
        let len = own.len in
        let place = place_below a r c holds in
        let first = lent'.before_len in
        let second = lent'.behind_len in
        let lies = off p own.range before read own.there in
        let number = done p m before (omega arith) read h a own.range there own.there r c holds in
        let lent_there : IsLent boxes own.range.0 (point_count a) =
        elim lies [ inl low ↦ inl (omega arith) | inr high ↦ inr (omega arith, omega arith) ] in (
          own.range,
          own.there,
          record {
            within = holds;
            lent = lent_there;
            is = (
              λ low. lent'.before (own.range.0 + place_of a r c) (omega (arith, low)) ∙ number,
              λ high. lent'.behind (own.range.0 + place_of a r c) high (omega arith) ∙ number,
            );
          },
        )

    pub finds : FindsEarlier t.job l.steps m (IsBoxed t.job l given boxes)
    finds p h a before there read r c holds =
        let inner : IsInnerStep l p h a = (omega (arith, before, few), there) in
        record {
          some = (p, a, inner);
          each = λ k b one.
              let same = only_place k p h a b one inner in
              has_box k h b (omega (arith, before, same.0)) one.1 (subst (λ (n : ℕ). IsReadAt t.job l.steps n m) (sym same.0) read) r c
              (subst (λ (x : Area). HoldsPoint x r c) (sym same.1) holds);
        }

  -- ---- one step more

  pub none_computed : (memory : List ℤ) → AreComputed t.job l given memory 0
  none_computed memory = λ p n before upto read. absurd (omega (arith, before))

  module _ (memory new : List ℤ) (m h : ℕ) (a : Area) (here : IsInnerStep l m h a) (mine : ℕ × ℕ)
      (mine_there : slice_get l.ranges m ≡ Some mine) (done : AreComputed t.job l given memory m)
      (low_same : (n : ℕ) → n < mine.0 → at new n ≡ at memory n) (high_same : (n : ℕ) → mine.0 + mine.1 ≤ n → at new n ≡ at memory n)
      (this : (r c : ℤ) → HoldsPoint a r c → at new (mine.0 + place_of a r c) ≡ local_value t.job l.inlining given h r c) where
    own : IsComputed t.job l given new m
    own g b range there is_range r c holds =
        let range_same : range ≡ mine = ap (λ (o : Option (ℕ × ℕ)). unwrap_or o mine) (sym is_range ∙ mine_there) in
        let pair : (g, b) ≡ (h, a) = ap (λ (o : Option (ℕ × Area)). unwrap_or o (h, a)) (sym there ∙ here.1) in
        let held : HoldsPoint a r c = subst (λ (x : ℕ × Area). HoldsPoint x.1 r c) pair holds in
        (λ i. at new ((range_same i).0 + place_of (pair i).1 r c)) ∙ this r c held
        ∙ ap (λ (x : ℕ × Area). local_value t.job l.inlining given x.0 r c) (sym pair)

    earlier : (p n : ℕ) → p < m → m + 1 ≤ n → IsReadAt t.job l.steps p n → IsComputed t.job l given new p
    earlier p n before upto read g b range there is_range r c holds =
        let one = range_at p g b (omega (arith, here.0), there) in
        let same : one.range ≡ range = ap (λ (o : Option (ℕ × ℕ)). unwrap_or o range) (sym one.there ∙ is_range) in
        let len : range.1 ≡ point_count b = subst (λ (x : ℕ × ℕ). x.1 ≡ point_count b) same one.len in
        let place = place_below b r c holds in
        let still = done p n before (omega (arith, upto)) read g b range there is_range r c holds in
        elim (lies_off p m n range mine before (omega (arith, upto)) read is_range mine_there) [
          | inl low ↦ low_same (range.0 + place_of b r c) (omega arith) ∙ still
          | inr high ↦ high_same (range.0 + place_of b r c) (omega arith) ∙ still
        ]

    pub computed_next : AreComputed t.job l given new (m + 1)
    computed_next p n before upto read = elim (cases_lt p m) [
      | inl less ↦ earlier p n less upto read
      | inr most ↦ (let same : m ≡ p = omega arith in subst (IsComputed t.job l given new) same own)
    ]
