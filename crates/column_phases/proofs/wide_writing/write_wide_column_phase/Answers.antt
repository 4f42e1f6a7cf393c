use Rattle.std.proofs.Common.{arith, ℕ, ℤ, ◌≡◌, ◌<◌, ◌≤◌, ◌+◌, ◌-◌, ◌/◌, ◌+ℤ◌, pos, length, map, ap, sym, subst, ◌∙◌}
use Rattle.std.specs.Option.{option_map}
use Rattle.std.proofs.lemmas.Option.{same_Some}
use borrow.Rule.Slice.PartMut.{put_mid}
use Rattle.domains.specs.Span.{Ends, len_of}
use Rattle.job.specs.Views.{case_view, formula_view}
use Rattle.row_loops.specs.Rows.{at}
use Rattle.tile_eval.specs.Cases.{function_value, IsComputable}
use Rattle.tile_eval.specs.Reading.{HasFunctionRoom}
use Rattle.tile_eval.proofs.Covering.{cut_len}
use Rattle.column_phases.specs.inside.Rows.{places_from, row_start, row_place}
use Rattle.column_phases.proofs.RowLaws.{in_row}
use Rattle.column_phases.proofs.RowValues.{wide_ready, wide_room, row_value, part_at, columns_len}
use Rattle.column_phases.proofs.wide_writing.write_wide_column_phase.Goals as goal

pub write_row_of_wide_column_phase-requires-clause-function : goal.write_row_of_wide_column_phase-requires-clause-function
write_row_of_wide_column_phase-requires-clause-function g c =
    let all = c.args.phases.now in
    let f = c.args.function.now in
    let area = c.args.area.now in
    let points = c.from_area_top-points in
    let phase = c.slice_column_phase.result.0.now in
    let part = c.slice_column_phase.result.2 in
    subst
    (λ (s : Ends). IsComputable (g.S.RowSource.has c.args.source.now) (record { rows = area.rows; cols = s }) (map case_view phase.cases.items)
    (option_map formula_view phase.otherwise)) (sym (same_Some _ _ c.in-Some.ensures))
    (wide_ready all.functions.items (map case_view f.cases.items) (option_map formula_view f.otherwise) c.requires.phases all.least all.most
    points.result c.args.place phase part c.slice_column_phase.ensures.part (length c.args.out.now) (points.ensures.len ∙ sym c.requires.fits)
    c.requires.enough c.requires.place (g.S.RowSource.has c.args.source.now) area c.requires.function points.ensures.col c.requires.fits)

pub write_row_of_wide_column_phase-requires-clause-count : goal.write_row_of_wide_column_phase-requires-clause-count
write_row_of_wide_column_phase-requires-clause-count g c =
    let part = c.slice_column_phase.result.2 in
    let some = c.slice_column_phase.ensures.part.some in
    let len = c.slice_column_phase.ensures.part.len in
    let count : c.from_area_top-points.result.len ≡ length c.args.out.now = c.from_area_top-points.ensures.len ∙ sym c.requires.fits in
    let within = ap (λ (n : ℕ). places_from (length c.args.phases.now.functions.items) n c.args.place) count in
    let end = c.args.from + part.len in
    let same : end - c.args.from ≡ part.len = omega arith in
    cut_len c.args.from end c.args.out.now (omega (arith, some)) (omega (arith, len, within, c.requires.few)) ∙ same
    ∙ sym (columns_len part.col part.len) ∙ ap len_of (sym (same_Some _ _ c.in-Some.ensures))

pub write_row_of_wide_column_phase-requires-clause-room : goal.write_row_of_wide_column_phase-requires-clause-room
write_row_of_wide_column_phase-requires-clause-room g c =
    let all = c.args.phases.now in
    let f = c.args.function.now in
    let points = c.from_area_top-points in
    let phase = c.slice_column_phase.result.0.now in
    let part = c.slice_column_phase.result.2 in
    subst
    (λ (m : ℕ). HasFunctionRoom m (length c.args.temps.now) (map case_view phase.cases.items) (option_map formula_view phase.otherwise))
    (sym (ap len_of (same_Some _ _ c.in-Some.ensures) ∙ columns_len part.col part.len))
    (wide_room all.functions.items (map case_view f.cases.items) (option_map formula_view f.otherwise) c.requires.phases all.least all.most
    points.result c.args.place phase part c.slice_column_phase.ensures.part (length c.args.out.now) (points.ensures.len ∙ sym c.requires.fits)
    c.requires.enough c.requires.place (length c.args.temps.now) c.requires.room c.requires.function.tests c.requires.function.formulas)

pub returns-in-Some-clause-row : goal.returns-in-Some-clause-row
returns-in-Some-clause-row g c = λ k h e.
    let all = c.args.phases.now in
    let phases = all.functions.items in
    let P = length phases in
    let f = c.args.function.now in
    let area = c.args.area.now in
    let points = c.from_area_top-points in
    let n = length c.args.out.now in
    let it = c.slice_column_phase in
    let count = points.ensures.len ∙ sym c.requires.fits in
    let len : it.result.2.len ≡ places_from P n c.args.place = it.ensures.part.len ∙ ap (λ (m : ℕ). places_from P m c.args.place) count in
    let some = it.ensures.part.some in
    let end = c.args.from + it.result.2.len in
    let out = c.write_row_of_wide_column_phase.new.out in
    let inside : k / P < places_from P n c.args.place =
    subst (λ (x : ℕ). k / P < places_from P n x) e (in_row P all.least all.most n k h) in
    let there : row_place P n k ≡ c.args.from + k / P =
    ap (λ (x : ℕ). row_start P n x + k / P) e ∙ ap (λ (x : ℕ). x + k / P) (sym c.requires.from) in
    let ordered : c.args.from < end = omega (arith, some) in
    let within : end ≤ n = omega (arith, len, c.requires.few) in
    let cut = cut_len c.args.from end c.args.out.now ordered within in
    ap (at (put_mid c.args.from (end - c.args.from) c.args.out.now out)) there
    ∙ part_at c.args.from end c.args.out.now out ordered within c.write_row_of_wide_column_phase.auto.out (k / P) (omega (arith, inside, len))
    ∙ c.write_row_of_wide_column_phase.ensures (k / P) (omega (arith, inside, len, cut))
    ∙ ap
    (λ (s : Ends). function_value (g.S.RowSource.samples c.args.source.now) (map case_view it.result.0.now.cases.items)
    (option_map formula_view it.result.0.now.otherwise) area.rows.lo (s.lo +ℤ pos (k / P))) (same_Some _ _ c.in-Some.ensures)
    ∙ row_value phases (map case_view f.cases.items) (option_map formula_view f.otherwise) c.requires.phases all.least all.most points.result
    c.args.place it.result.0.now it.result.2 it.ensures.part n count c.requires.enough c.requires.place (g.S.RowSource.samples c.args.source.now)
    c.requires.function.tests c.requires.function.formulas k e area.rows.lo
    ∙ ap
    (λ (z : ℤ). function_value (g.S.RowSource.samples c.args.source.now) (map case_view f.cases.items) (option_map formula_view f.otherwise)
    area.rows.lo (z +ℤ pos k)) points.ensures.col
