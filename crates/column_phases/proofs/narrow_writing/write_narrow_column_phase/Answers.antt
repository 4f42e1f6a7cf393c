use Rattle.std.proofs.Common.{arith, ℕ, ℤ, ◌≡◌, ◌<◌, ◌≤◌, ◌+◌, ◌-◌, ◌/◌, ◌+ℤ◌, pos, length, map, ap, sym, subst, ◌∙◌}
use Rattle.std.specs.Option.{option_map}
use borrow.Rule.Slice.PartMut.{put_mid}
use Rattle.job.specs.Views.{case_view, formula_view}
use Rattle.narrow_eval.specs.NarrowPrograms.{program_case, program_formula}
use Rattle.row_loops.specs.Rows.{at}
use Rattle.tile_eval.specs.Cases.{function_value}
use Rattle.tile_eval.proofs.Covering.{cut_len}
use Rattle.column_phases.specs.inside.Rows.{places_from, row_start, row_place}
use Rattle.column_phases.proofs.Merely.{narrow_computable_same, value_same}
use Rattle.column_phases.proofs.RowLaws.{in_row}
use Rattle.column_phases.proofs.RowValues.{narrow_ready, row_value, part_at}
use Rattle.column_phases.proofs.narrow_writing.write_narrow_column_phase.Goals as goal

pub evaluate_narrow_function-requires-clause-function : goal.evaluate_narrow_function-requires-clause-function
evaluate_narrow_function-requires-clause-function g c =
    let all = c.args.phases.now in
    let f = c.args.function.now in
    let n = length c.args.out.now in
    let it = c.slice_column_phase in
    let enough : length all.functions.items ≤ n = omega (arith, c.requires.enough, c.requires.fits) in
    let len : it.result.2.len ≡ places_from (length all.functions.items) n c.args.place =
    it.ensures.part.len ∙ ap (λ (m : ℕ). places_from (length all.functions.items) m c.args.place) (sym c.requires.fits) in
    let some = it.ensures.part.some in
    let end = c.args.from + it.result.2.len in
    let cut = cut_len c.args.from end c.args.out.now (omega (arith, some)) (omega (arith, len, c.requires.few)) in
    let phase = it.result.0.now in
    let program = it.result.1.now in
    narrow_computable_same (map program_case program.cases.items) (map case_view phase.cases.items) (option_map program_formula program.otherwise)
    (option_map formula_view phase.otherwise) it.ensures.program _ _ _ _ _ _
    (narrow_ready all.functions.items (map program_case f.cases.items) (option_map program_formula f.otherwise) c.requires.phases all.least all.most
    c.args.points.now c.args.place it.result.0.now it.result.2 it.ensures.part n (sym c.requires.fits) enough c.requires.place
    (g.S.NarrowSource.has c.args.source.now) (g.S.NarrowSource.samples c.args.source.now) (length c.args.temps.now) c.requires.function _
    (cut ∙ omega arith))

pub returns-clause-row : goal.returns-clause-row
returns-clause-row g c = λ k h e.
    let all = c.args.phases.now in
    let P = length all.functions.items in
    let f = c.args.function.now in
    let points = c.args.points.now in
    let n = length c.args.out.now in
    let it = c.slice_column_phase in
    let enough : P ≤ n = omega (arith, c.requires.enough, c.requires.fits) in
    let len : it.result.2.len ≡ places_from P n c.args.place = it.ensures.part.len ∙ ap (λ (m : ℕ). places_from P m c.args.place) (sym c.requires.fits) in
    let some = it.ensures.part.some in
    let end = c.args.from + it.result.2.len in
    let out = c.evaluate_narrow_function.new.out in
    let inside : k / P < places_from P n c.args.place =
    subst (λ (x : ℕ). k / P < places_from P n x) e (in_row P all.least all.most n k h) in
    let there : row_place P n k ≡ c.args.from + k / P =
    ap (λ (x : ℕ). row_start P n x + k / P) e ∙ ap (λ (x : ℕ). x + k / P) (sym c.requires.from) in
    let ordered : c.args.from < end = omega (arith, some) in
    let within : end ≤ n = omega (arith, len, c.requires.few) in
    let cut = cut_len c.args.from end c.args.out.now ordered within in
    ap (at (put_mid c.args.from (end - c.args.from) c.args.out.now out)) there
    ∙ part_at c.args.from end c.args.out.now out ordered within c.evaluate_narrow_function.auto.out (k / P) (omega (arith, inside, len))
    ∙ c.evaluate_narrow_function.ensures (k / P) (omega (arith, inside, len, cut))
    ∙ ap
    (λ (z : ℤ). function_value (g.S.NarrowSource.samples c.args.source.now) (map program_case it.result.1.now.cases.items)
    (option_map program_formula it.result.1.now.otherwise) z (it.result.2.col +ℤ pos (k / P))) it.ensures.part.row
    ∙ value_same (map program_case it.result.1.now.cases.items) (map case_view it.result.0.now.cases.items)
    (option_map program_formula it.result.1.now.otherwise) (option_map formula_view it.result.0.now.otherwise) it.ensures.program
    (g.S.NarrowSource.samples c.args.source.now) points.row (it.result.2.col +ℤ pos (k / P))
    ∙ row_value all.functions.items (map program_case f.cases.items) (option_map program_formula f.otherwise) c.requires.phases all.least all.most points
    c.args.place it.result.0.now it.result.2 it.ensures.part n (sym c.requires.fits) enough c.requires.place (g.S.NarrowSource.samples c.args.source.now)
    c.requires.function.tests c.requires.function.formulas k e points.row
