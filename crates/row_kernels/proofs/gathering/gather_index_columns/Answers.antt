use Rattle.std.proofs.Common.{rules, ℕ, ◌≡◌, ◌+◌, ◌*◌, pos, w32, FitsSigned, ap, ◌∙◌, sym, subst}
use Rattle.std.proofs.lemmas.Int.{to_z-of_z}
use Rattle.row_kernels.specs.Columns.{column_gap}
use Rattle.row_kernels.specs.inside.Divided.{compute_column_offset_at_place}
use Rattle.row_kernels.proofs.Columns.{columns_step, gap_found}
use Rattle.row_kernels.proofs.gathering.gather_index_columns.Goals as goal

pub gather_every_nth-requires-clause-there : goal.gather_every_nth-requires-clause-there
gather_every_nth-requires-clause-there g c = λ k h.
    let div : c.args.col.now.div ≡ pos 1 = search rules in
    let goes : column_gap c.args.col.now c.args.points.now.col k ≡ k * c.get_gather_step.result =
    gap_found c.args.col.now c.args.points.now.col k _ (columns_step c.args.col.now _ c.args.points.now.col k c.get_gather_step.ensures div) in
    subst (λ (n : ℕ). g.V.RowNumbers.has c.args.numbers (c.args.place + n)) goes (c.requires.there k h)

pub gather_divided_columns-requires-clause-there : goal.gather_divided_columns-requires-clause-there
gather_divided_columns-requires-clause-there g c = λ k h.
    let from : FitsSigned w32 c.args.points.now.col = search rules in
    let goes : column_gap c.args.col.now c.args.points.now.col k ≡ compute_column_offset_at_place c.from_index.result k =
    gap_found c.args.col.now c.args.points.now.col k _ ((rw (to_z-of_z w32 c.args.points.now.col from) at c.from_index.ensures) k) in
    subst (λ (n : ℕ). g.V.RowNumbers.has c.args.numbers (c.args.place + n)) goes (c.requires.there k h)

pub returns-then-div-eq1 : goal.returns-then-div-eq1
returns-then-div-eq1 g c = λ k h.
    let div : c.args.col.now.div ≡ pos 1 = search rules in
    let goes : column_gap c.args.col.now c.args.points.now.col k ≡ k * c.get_gather_step.result =
    gap_found c.args.col.now c.args.points.now.col k _ (columns_step c.args.col.now _ c.args.points.now.col k c.get_gather_step.ensures div) in
    c.gather_every_nth.ensures k h ∙ ap (λ (n : ℕ). g.V.RowNumbers.number c.args.numbers (c.args.place + n)) (sym goes)

pub returns-else-div-eq1 : goal.returns-else-div-eq1
returns-else-div-eq1 g c = λ k h.
    let from : FitsSigned w32 c.args.points.now.col = search rules in
    let goes : column_gap c.args.col.now c.args.points.now.col k ≡ compute_column_offset_at_place c.from_index.result k =
    gap_found c.args.col.now c.args.points.now.col k _ ((rw (to_z-of_z w32 c.args.points.now.col from) at c.from_index.ensures) k) in
    c.gather_divided_columns.ensures k h ∙ ap (λ (n : ℕ). g.V.RowNumbers.number c.args.numbers (c.args.place + n)) (sym goes)
