use Rattle.std.proofs.Common.{ℕ, ◌≡◌, ◌∙◌, All, Some, arith, slice_get, subst}
use borrow.Author.Count.{below_more}
use Rattle.std.proofs.lemmas.Option.{get_or_from_slice_get, slice_get_within}
use Rattle.row_plans.specs.Moved.{IsReadMoved}
use Rattle.row_plans.specs.declared.stage_rows_read.StageRowsRead.{StageRowsRead}
use Rattle.row_plans.proofs.row_state_repeats.are_row_state_reads_moved.Goals as goal

pub loop-stage-preserved : goal.loop-stage-preserved
loop-stage-preserved c = λ states d moved.
    let rows = c.args.rows.now in
    let at = c.loop-stage.stage in
    let item = c.index-rows-stage.result in
    let P : ℕ → Type 0 = λ g. (x : StageRowsRead) → slice_get rows g ≡ Some x → All (IsReadMoved d states g) x.reads.items in
    let here : P at = λ x own. subst (λ (y : StageRowsRead). All (IsReadMoved d states at) y.reads.items)
    (c.index-rows-stage.is ∙ get_or_from_slice_get rows at x item own)
    (c.are_rows_read_moved.ensures c.if-not-are_rows_read_moved.false states d moved) in
    below_more P at (c.loop-stage.invariant states d moved) here

pub returns : goal.returns
returns c = λ _ states d moved. record {
  each = λ g x own.
      let within = slice_get_within c.args.rows.now g x own in
      c.loop-stage.invariant states d moved g (omega arith) x own;
}
