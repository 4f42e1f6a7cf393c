use Rattle.std.proofs.Common.{rules, arith, ℕ, ℤ, ◌≡◌, ◌+ℤ◌, ◌+◌, ◌*◌, ◌≤◌}
use Rattle.std.proofs.Common.{◌<◌, ◌-◌, take, drop, pos, List, length, map, ap, ◌∙◌, sym, subst}
use Rattle.std.specs.Prelude.{Option, All}
use Rattle.std.specs.Option.{option_map}
use Rattle.std.proofs.lemmas.List.Elements.{All-weaker}
use Rattle.job.specs.declared.stage.JobCase.{JobCase as KeptCase}
use Rattle.job.specs.declared.formula.Formula.{Formula as KeptFormula}
use Rattle.job.specs.Reads.{EachRead}
use Rattle.job.specs.Views.{case_view, formula_view}
use Rattle.row_loops.specs.Rows.{EachPlace}
use Rattle.tile_eval.specs.Cases.{function_value}
use Rattle.tile_eval.specs.inside.Cases.{IsReady, IsRoomy}
use Rattle.tile_eval.proofs.Grid.{rows_more, row_len, line_within, same_place}
use Rattle.tile_eval.proofs.source_row.SourceRow.evaluate_function_from_row_down.Goals as goal

pub evaluate_cases-requires-clause-ready : goal.evaluate_cases-requires-clause-ready
evaluate_cases-requires-clause-ready g c =
    let lt : c.loop-i.i < c.args.rows = omega arith in
    let len : length c.loop-i.out ≡ c.args.rows * c.args.self.now.points.len = c.loop-i.auto.out ∙ c.requires.len in
    let whole : c.loop-i.i * c.args.self.now.points.len + c.args.self.now.points.len ≤ length c.loop-i.out =
    line_within c.loop-i.i c.args.rows c.args.self.now.points.len (length c.loop-i.out) lt len in
    let cut = row_len (c.loop-i.i * c.args.self.now.points.len) c.args.self.now.points.len c.loop-i.out whole in
    let temps : length c.loop-i.temps ≡ length c.args.temps.now = search rules in
    let P : KeptCase → Type 0 =
    λ p. ((i k : ℕ) → i < c.args.rows → k < c.args.self.now.points.len
    → IsReady (g.S.RowSource.has c.args.self.now.source.now) (case_view p) (c.args.self.now.points.row +ℤ pos i)
    (c.args.self.now.points.col +ℤ pos k))
    × IsRoomy c.args.self.now.points.len (length c.args.temps.now) (case_view p) in
    let Q : KeptCase → Type 0 =
    λ p. EachPlace c.args.self.now.points.len
    (λ k. IsReady (g.S.RowSource.has c.args.self.now.source.now) (case_view p) c.copy_moved_down_by_rows-points.result.row (c.copy_moved_down_by_rows-points.result.col +ℤ pos
    k))
    × IsRoomy c.args.self.now.points.len (length c.args.temps.now) (case_view p) in
    let step : (p : KeptCase) → P p → Q p = λ p h. (
      (λ k l. same_place (IsReady (g.S.RowSource.has c.args.self.now.source.now) (case_view p)) (c.args.self.now.points.row +ℤ pos
          c.loop-i.i)
          c.args.self.now.points.col c.copy_moved_down_by_rows-points.result.row c.copy_moved_down_by_rows-points.result.col k c.copy_moved_down_by_rows-points.ensures.row
          c.copy_moved_down_by_rows-points.ensures.col
          (h.0 c.loop-i.i k lt l)),
      h.1,
    ) in
    rw cut (rw temps (record {
      cases = subst (All Q) (sym c.cases.ensures) (All-weaker P Q step c.args.function.now.cases.items c.requires.cases);
      other = λ f is.
          let other = c.requires.other f (sym (ap (option_map formula_view) c.otherwise.ensures) ∙ is) in (
            (λ k l. same_place (EachRead (g.S.RowSource.has c.args.self.now.source.now) f) (c.args.self.now.points.row +ℤ pos c.loop-i.i)
                c.args.self.now.points.col
                c.copy_moved_down_by_rows-points.result.row c.copy_moved_down_by_rows-points.result.col k c.copy_moved_down_by_rows-points.ensures.row c.copy_moved_down_by_rows-points.ensures.col
                (other.0 c.loop-i.i k lt l)),
            other.1,
            other.2,
          );
    }))

pub loop-i-preserved : goal.loop-i-preserved
loop-i-preserved g c =
    let f : ℕ → ℕ → ℤ =
    λ i k. function_value (g.S.RowSource.samples c.args.self.now.source.now) (map case_view c.args.function.now.cases.items)
    (option_map formula_view c.args.function.now.otherwise) (c.args.self.now.points.row +ℤ pos i) (c.args.self.now.points.col +ℤ pos k) in
    let lt : c.loop-i.i < c.args.rows = omega arith in
    let len : length c.loop-i.out ≡ c.args.rows * c.args.self.now.points.len = c.loop-i.auto.out ∙ c.requires.len in
    let whole : c.loop-i.i * c.args.self.now.points.len + c.args.self.now.points.len ≤ length c.loop-i.out =
    line_within c.loop-i.i c.args.rows c.args.self.now.points.len (length c.loop-i.out) lt len in
    let from : c.loop-i.i * c.args.self.now.points.len ≤ length c.loop-i.out = omega arith in
    let cut = row_len (c.loop-i.i * c.args.self.now.points.len) c.args.self.now.points.len c.loop-i.out whole in
    let long : length c.evaluate_cases.new.out ≡ c.args.self.now.points.len = c.evaluate_cases.auto.out ∙ cut in
    rows_more f c.loop-i.i c.args.self.now.points.len c.loop-i.out c.evaluate_cases.new.out from long c.loop-i.invariant
    (λ k h. let within : k
    < length (take (c.loop-i.i * c.args.self.now.points.len + c.args.self.now.points.len - c.loop-i.i * c.args.self.now.points.len)
    (drop (c.loop-i.i * c.args.self.now.points.len) c.loop-i.out)) = rw cut h in
    c.evaluate_cases.ensures k within
    ∙ ap (λ (ps : List KeptCase). function_value (g.S.RowSource.samples c.args.self.now.source.now) (map case_view ps)
    (option_map formula_view c.otherwise.result.now) c.copy_moved_down_by_rows-points.result.row (c.copy_moved_down_by_rows-points.result.col +ℤ pos k)) c.cases.ensures
    ∙ ap (λ (o : Option KeptFormula). function_value (g.S.RowSource.samples c.args.self.now.source.now)
    (map case_view c.args.function.now.cases.items) (option_map formula_view o) c.copy_moved_down_by_rows-points.result.row
    (c.copy_moved_down_by_rows-points.result.col +ℤ pos k)) c.otherwise.ensures
    ∙ ap (λ (r : ℤ). function_value (g.S.RowSource.samples c.args.self.now.source.now) (map case_view c.args.function.now.cases.items)
    (option_map formula_view c.args.function.now.otherwise) r (c.copy_moved_down_by_rows-points.result.col +ℤ pos k)) c.copy_moved_down_by_rows-points.ensures.row
    ∙ ap (λ (x : ℤ). function_value (g.S.RowSource.samples c.args.self.now.source.now) (map case_view c.args.function.now.cases.items)
    (option_map formula_view c.args.function.now.otherwise) (c.args.self.now.points.row +ℤ pos c.loop-i.i) (x +ℤ pos k))
    c.copy_moved_down_by_rows-points.ensures.col)
