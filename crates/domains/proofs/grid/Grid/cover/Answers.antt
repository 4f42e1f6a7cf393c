use Rattle.std.proofs.Common.{◌≡◌, ◌≤◌, ◌+◌, ◌-◌, ◌++◌, ◌∙◌, ℕ, ap, sym, subst, arith}
use Rattle.std.specs.List.{range_with_len}
use Rattle.domains.specs.Pairs.{pairs}
use Rattle.domains.specs.Tiles.{part_count}
use Rattle.domains.proofs.PairLists.{row_of, pairs_more}
use Rattle.domains.proofs.Covers.{AreMeeting, cover_is, exact_from, in_order_from}
use Rattle.domains.proofs.grid.Grid.cover.Goals as goal

pub loop-i-preserved : goal.loop-i-preserved
loop-i-preserved c =
    let rows = c.find_range_of_meeting_span_parts-rows.result in
    let cols = range_with_len c.find_range_of_meeting_span_parts-cols.result.0 (c.find_range_of_meeting_span_parts-cols.result.1 - c.find_range_of_meeting_span_parts-cols.result.0) in
    let done : rows.0 + (c.loop-i.i - rows.0) ≡ c.loop-i.i = omega arith in
    let count : (c.loop-i.i - rows.0) + 1 ≡ c.loop-i.i + 1 - rows.0 = omega arith in
    c.in_ok-push_tiles_of_grid_row.ensures
    ∙ ap (λ ts. ts ++ row_of c.loop-i.i cols) c.loop-i.invariant
    ∙ sym (pairs_more rows.0 (c.loop-i.i - rows.0) c.loop-i.i cols done)
    ∙ ap (λ n. pairs (range_with_len rows.0 n) cols) count

pub returns-clause-list : goal.returns-clause-list
returns-clause-list c =
    let g = c.args.self.now in
    let a = c.args.area.now in
    let rows = c.find_range_of_meeting_span_parts-rows.result in
    let cols = c.find_range_of_meeting_span_parts-cols.result in
    let count : c.loop-i.i - rows.0 ≡ rows.1 - rows.0 = omega (arith, c.find_range_of_meeting_span_parts-rows.ensures.ordered) in
    c.loop-i.invariant
    ∙ ap (λ n. pairs (range_with_len rows.0 n) (range_with_len cols.0 (cols.1 - cols.0))) count
    ∙ cover_is g a rows.0 rows.1 cols.0 cols.1
    (subst (λ (n : ℕ). AreMeeting g.area.rows n a.rows rows.0 rows.1) c.height.ensures.length c.find_range_of_meeting_span_parts-rows.ensures.parts)
    (subst (λ (n : ℕ). rows.1 ≤ part_count g.area.rows n) c.height.ensures.length c.find_range_of_meeting_span_parts-rows.ensures.within)
    (subst (λ (n : ℕ). AreMeeting g.area.cols n a.cols cols.0 cols.1) c.width.ensures.length c.find_range_of_meeting_span_parts-cols.ensures.parts)
    (subst (λ (n : ℕ). cols.1 ≤ part_count g.area.cols n) c.width.ensures.length c.find_range_of_meeting_span_parts-cols.ensures.within)

pub returns-clause-exact : goal.returns-clause-exact
returns-clause-exact c =
    let rows = c.find_range_of_meeting_span_parts-rows.ensures.both in
    let cols = c.find_range_of_meeting_span_parts-cols.ensures.both in
    exact_from c.args.self.now c.args.area.now _ (returns-clause-list c) (record { rows = rows.0; cols = cols.0 })
    (record { rows = rows.1; cols = cols.1 }) c.height.ensures.within

pub returns-clause-order : goal.returns-clause-order
returns-clause-order c = in_order_from c.args.self.now c.args.area.now _ (returns-clause-list c)
