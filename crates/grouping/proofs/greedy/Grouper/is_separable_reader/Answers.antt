use Rattle.std.proofs.Common.{◌≡◌, Some, ℕ, List, length, refl, sym, ap, subst, ◌∙◌}
use Rattle.std.specs.Prelude.{slice_get}
use Rattle.std.proofs.lemmas.Option.{slice_get_read}
use Rattle.domains.specs.Tiles.{tile_cols}
use Rattle.grouping.specs.inside.Crossed.{IsCrossed}
use Rattle.grouping.specs.declared.standing.StageStatus.{StageStatus}
use Rattle.grouping.specs.declared.standing.StageStatus.TheVariants.{Inlined}
use Rattle.grouping.proofs.CrossedBoxes.{kept_across}
use Rattle.grouping.proofs.greedy.Grouper.is_separable_reader.Goals as goal

pub returns-in-Some-Inlined : goal.returns-in-Some-Inlined
returns-in-Some-Inlined c =
    let self = c.args.self.now in
    let g = c.args.grid.now in
    let boxes = c.in-Some-Inlined.boxes in
    let at : slice_get c.deref.result.now c.args.reader ≡ Some (Inlined boxes) =
    slice_get_read c.deref.result.now (length c.deref.result.now) c.args.reader c.in-Some-Inlined.field-0.now refl
    c.in-Some-Inlined.ensures.lookup.3.0 c.in-Some-Inlined.ensures.lookup.1 ∙ ap Some c.in-Some-Inlined.field-0-is in
    λ holds. kept_across self.standings.items c.args.group c.args.reader g boxes c.if-reader-group.false
    (ap (λ (xs : List StageStatus). slice_get xs c.args.reader) (sym c.deref.ensures.value) ∙ at)
    (subst (λ (n : ℕ). IsCrossed n (tile_cols g) boxes) c.tile_rows.ensures.number
    (subst (λ (m : ℕ). IsCrossed c.tile_rows.result m boxes) c.tile_cols.ensures.number (c.has_separable_boxes_of_grid_size.ensures holds)))
