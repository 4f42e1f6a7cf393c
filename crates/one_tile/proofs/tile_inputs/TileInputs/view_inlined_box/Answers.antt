use Rattle.std.proofs.Common.{rules, ℕ, ◌≡◌, ◌<◌, sym, ◌∙◌, subst, Some, None, slice_get}
use Rattle.std.specs.Option.{option_map}
use Rattle.domains.specs.Area.{HoldsPoint, point_count}
use Rattle.domains.specs.declared.area.Area.{Area}
use Rattle.job.specs.Kept.{pipeline_in}
use Rattle.row_kernels.proofs.Places.{place_below}
use Rattle.tile_eval.specs.Raster.{place_of}
use Rattle.tile_eval.specs.Rows.{at}
use Rattle.one_tile.specs.Local.{local_value}
use Rattle.one_tile.proofs.BoxesAreRead.{none_so, no_range, number_found}
use Rattle.one_tile.proofs.tile_inputs.TileInputs.view_inlined_box.Goals as goal

pub returns-in_err-start-clause-none : goal.returns-in_err-start-clause-none
returns-in_err-start-clause-none g c = none_so c.from_residual-in_err-start.result (λ r k b.
    let tile = c.args.self.now.tile in
    let none : slice_get tile.layout.now.ranges c.in_ok-place.place ≡ None = search rules in
    no_range (pipeline_in tile.job.now) tile.layout.now (g.K.TileSource.given tile.known.now) c.args.self.now.boxes c.args.stage
    c.in_ok-place.place c.in_ok-place.ensures.some r k b none)

pub returns-in_err-numbers-clause-none : goal.returns-in_err-numbers-clause-none
returns-in_err-numbers-clause-none g c = none_so c.from_residual-in_err-numbers.result (λ r k b.
    let tile = c.args.self.now.tile in
    let l = tile.layout.now in
    let area : option_map (λ (s : ℕ × Area). s.1) (slice_get l.steps c.in_ok-place.place) ≡ Some c.in_ok-area.area = search rules in
    let start : option_map (λ (x : ℕ × ℕ). x.0) (slice_get l.ranges c.in_ok-place.place) ≡ Some c.in_ok-start.start = search rules in
    let number = number_found (pipeline_in tile.job.now) l (g.K.TileSource.given tile.known.now) c.args.self.now.boxes c.args.stage
    c.in_ok-place.place c.in_ok-place.ensures.some r k b c.in_ok-area.area c.in_ok-start.start area start in
    search (rules, number.lent))

pub returns-clause-some : goal.returns-clause-some
returns-clause-some g c = λ r k b.
    let tile = c.args.self.now.tile in
    let l = tile.layout.now in
    let area : option_map (λ (s : ℕ × Area). s.1) (slice_get l.steps c.in_ok-place.place) ≡ Some c.in_ok-area.area = search rules in
    let start : option_map (λ (x : ℕ × ℕ). x.0) (slice_get l.ranges c.in_ok-place.place) ≡ Some c.in_ok-start.start = search rules in
    let number = number_found (pipeline_in tile.job.now) l (g.K.TileSource.given tile.known.now) c.args.self.now.boxes c.args.stage
    c.in_ok-place.place c.in_ok-place.ensures.some r k b c.in_ok-area.area c.in_ok-start.start area start in
    let below : place_of c.in_ok-area.area r k < point_count c.in_ok-area.area = place_below c.in_ok-area.area r k number.within in
    let at_place : at c.in_ok-numbers.numbers.now (place_of c.in_ok-area.area r k)
    ≡ local_value (pipeline_in tile.job.now) l.inlining (g.K.TileSource.given tile.known.now) c.args.stage r k =
    c.in_ok-numbers.ensures.numbers (place_of c.in_ok-area.area r k) (search (rules, below)) _ number.is in (
      subst (λ (a : Area). HoldsPoint a r k) (sym c.new.ensures.area) number.within,
      (λ i. at (c.new.ensures.values i) (place_of (c.new.ensures.area i) r k)) ∙ at_place,
    )
