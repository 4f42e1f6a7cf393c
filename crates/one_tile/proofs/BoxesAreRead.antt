-- What is read of boxes that are lent.
use Rattle.std.proofs.Common.{ℕ, ℤ, ◌≡◌, ap, sym, ◌∙◌, subst, true, List, Option, Some, None, slice_get}
use Rattle.std.specs.Prelude.{IfNone, unwrap_or}
use Rattle.std.specs.Option.{option_map}
use Rattle.std.proofs.lemmas.Option.{none-some}
use Rattle.domains.specs.declared.area.Area.{Area}
use Rattle.domains.specs.Area.{HoldsPoint}
use Rattle.tile_boxes.specs.Schedules.{is_inlined}
use Rattle.job.specs.Formula.{Formula}
use Rattle.job.specs.Pipeline.{JobCase, function, Stage, Pipeline}
use Rattle.overlap_tiles.specs.Places.{IsPlaceOf}
use Rattle.overlap_tiles.specs.Plans.{TileLayout}
use Rattle.one_tile.specs.declared.scratch_view.TileScratchView.{TileScratchView}
use Rattle.tile_sources.specs.KnownTiles.{KnownTiles}
use Rattle.one_tile.specs.Local.{local_value}
use Rattle.one_tile.specs.Prepared.{HasNumber, HasBox, IsBoxed, IsInputAt, input_at}
use Rattle.row_kernels.specs.declared.buffer_view.BufferView.{BufferView}
use Rattle.tile_eval.specs.Raster.{place_of}
use Rattle.tile_eval.specs.Rows.{at}
use Rattle.one_tile.proofs.InputsAreRead.{of_inlined, read_inlined}

pub none_so : {X P : Type 0} → (o : Option X) → P → IfNone o P
none_so None p = p
none_so (Some x) p = tt

one_value : {X : Type 0} → (o : Option X) (x y : X) → o ≡ Some x → o ≡ Some y → x ≡ y
one_value {X = X} o x y one other = ap (λ (p : Option X). unwrap_or p y) (sym one ∙ other)

module _ (job : Pipeline) (l : TileLayout) (given : KnownTiles) (boxes : TileScratchView) (g k : ℕ) (place : IsPlaceOf l.steps g k) (r c : ℤ)
    (boxed : IsBoxed job l given boxes g r c) where
  box : HasBox l boxes k place.0 r c (local_value job l.inlining given g r c)
  box = boxed.each k place.0 (place.2, place.1)

  -- a stage that has a box has a range
  pub no_range : slice_get l.ranges k ≡ None → ⊥
  no_range none = none-some box.0 (sym none ∙ box.1)

  -- where its step and its range are found, they have the number
  pub number_found : (area : Area) (start : ℕ) → option_map (λ (s : ℕ × Area). s.1) (slice_get l.steps k) ≡ Some area
      → option_map (λ (x : ℕ × ℕ). x.0) (slice_get l.ranges k) ≡ Some start
      → HasNumber boxes area start r c (local_value job l.inlining given g r c)
  number_found area start area_is start_is =
      let one : place.0 ≡ area = one_value (option_map (λ (s : ℕ × Area). s.1) (slice_get l.steps k)) place.0 area
      (ap (option_map (λ (s : ℕ × Area). s.1)) place.1) area_is in
      let other : box.0.0 ≡ start = one_value (option_map (λ (x : ℕ × ℕ). x.0) (slice_get l.ranges k)) box.0.0 start
      (ap (option_map (λ (x : ℕ × ℕ). x.0)) box.1) start_is in
      subst (λ (a : Area). HasNumber boxes a start r c (local_value job l.inlining given g r c)) one
      (subst (λ (n : ℕ). HasNumber boxes place.0 n r c (local_value job l.inlining given g r c)) other box.2)

-- ---- a stage that is inlined is read by a view of its box

module _ (job : Pipeline) (l : TileLayout) (given : KnownTiles) (boxes : TileScratchView) (g : ℕ) (s : Stage) (there : slice_get job.stages g ≡ Some s)
    (ps : List JobCase) (o : Option Formula) (body : s.body ≡ function ps o) (flag : is_inlined l.inlining g ≡ true) (r c : ℤ)
    (hand : IsInputAt job l given boxes g r c) where
  boxed_there : IsBoxed job l given boxes g r c
  boxed_there = of_inlined job l.inlining given (IsBoxed job l given boxes) g r c s there hand ps o body flag

  pub some_view : ((i j : ℤ) → ¬ (IsBoxed job l given boxes g i j)) → ⊥
  some_view none = none r c boxed_there

  module _ (view : BufferView) (shows : (i j : ℤ) → IsBoxed job l given boxes g i j → HoldsPoint view.area i j
      × (at view.values.now (place_of view.area i j) ≡ local_value job l.inlining given g i j)) where
    pub view_holds : HoldsPoint view.area r c
    view_holds = (shows r c boxed_there).0

    pub view_reads : at view.values.now (place_of view.area r c) ≡ input_at job l.inlining given g r c
    view_reads = (shows r c boxed_there).1 ∙ sym (read_inlined job l.inlining given (local_value job l.inlining given) g s there r c ps o
        body flag)
