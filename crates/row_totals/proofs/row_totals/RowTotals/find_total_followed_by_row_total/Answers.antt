use Rattle.std.proofs.Common.{arith, ◌<◌, length, refl, sym, subst, true≢false}
use Rattle.std.proofs.lemmas.List.{take_all}
use Rattle.std.proofs.lemmas.List.Elements.{All-more}
use Rattle.std.proofs.lemmas.Option.{slice_get_read}
use Rattle.row_totals.specs.Spans.{IsFollowedBy}
use Rattle.row_totals.specs.declared.row_total.RowTotal.{RowTotal}
use Rattle.row_totals.proofs.row_totals.RowTotals.find_total_followed_by_row_total.Goals as goal

pub returns-then-is_followed_by_row_total-clause-some : goal.returns-then-is_followed_by_row_total-clause-some
returns-then-is_followed_by_row_total-clause-some c =
    let items = c.args.self.now.totals.items in
    let within : c.loop-place.place < length items = omega (arith, c.loop-place-test.true) in
    let it = c.if-is_followed_by_row_total.ensures.0 refl in (
      c.index.result.now,
      slice_get_read items (length items) c.loop-place.place c.index.result.now refl within c.index.ensures,
      record { stage = it.0; first = it.1 },
    )

pub loop-place-preserved : goal.loop-place-preserved
loop-place-preserved c =
    let items = c.args.self.now.totals.items in
    let within : c.loop-place.place < length items = omega (arith, c.loop-place-test.true) in
    let P : RowTotal → Type 0 = λ total. ¬ (IsFollowedBy total c.args.other.now) in
    All-more P items c.loop-place.place c.index.result.now within c.loop-place.invariant
    (subst P c.index.ensures (λ follows. true≢false (sym (c.if-is_followed_by_row_total.ensures.1 (follows.stage, follows.first)))))

pub returns-clause-none : goal.returns-clause-none
returns-clause-none c =
    rw (take_all c.loop-place.place c.args.self.now.totals.items (omega (arith, c.loop-place-test.false))) at c.loop-place.invariant
