use Rattle.std.proofs.Common.{arith, ◌≡◌, ◌<◌, length, subst}
use Rattle.std.proofs.lemmas.List.{take_all}
use Rattle.std.proofs.lemmas.List.Elements.{All-more}
use Rattle.row_totals.specs.Spans.{IsTotalOfAll}
use Rattle.row_totals.specs.declared.row_total.RowTotal.{RowTotal}
use Rattle.row_totals.proofs.row_totals.RowTotals.borrow_bins_of_whole_total.Goals as goal
use Rattle.row_totals.proofs.row_totals.RowTotals.borrow_bins_of_whole_total.Goals.{then-summed_stage-stage+in_default, else-summed_stage-stage}

pub loop-place-preserved : goal.loop-place-preserved
loop-place-preserved c =
    let items = c.args.self.now.totals.items in
    let within : c.loop-place.place < length items = omega (arith, c.loop-place-test.true) in
    let P : RowTotal → Type 0 = λ total. total.stage ≡ c.args.stage → ¬ (IsTotalOfAll total) in
    let here : P c.index-total.result.now = elim c.if-summed_stage-stage.branch [
      | then-summed_stage-stage+in_default w ↦ λ same whole. (rw w.in_default.is at w.borrow_summed_bins_if_whole.ensures.none) whole.first whole.next
      | else-summed_stage-stage w ↦ λ same whole. absurd (omega (arith, same, c.summed_stage.ensures, w.if-summed_stage-stage.false))
    ] in
    All-more P items c.loop-place.place c.index-total.result.now within c.loop-place.invariant (subst P c.index-total.ensures here)

pub returns-clause-none : goal.returns-clause-none
returns-clause-none c =
    rw (take_all c.loop-place.place c.args.self.now.totals.items (omega (arith, c.loop-place-test.false))) at c.loop-place.invariant
