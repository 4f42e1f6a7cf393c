use Rattle.std.proofs.Common.{arith, ◌≡◌, ◌<◌, ◌+◌, ◌∷◌, suc, length, drop, drop-cons, refl, sym, ◌∙◌, subst}
use Rattle.std.proofs.lemmas.List.{drop_all}
use Rattle.row_totals.specs.Spans.{AreJoinedBy}
use Rattle.row_totals.proofs.row_totals.RowTotals.join_following_row_totals.Goals as goal

pub loop-place-preserved : goal.loop-place-preserved
loop-place-preserved c =
    let before = c.loop-place.invariant in
    let others = c.args.others.now.totals.items in
    let place = c.loop-place.place in
    let within : place < length others = omega (arith, c.loop-place-test.true) in
    let other = c.index.result.now in
    let one = c.join_following_row_total.ensures.joined c.if-not-join_following_row_total.false in
    let next : suc place ≡ place + 1 = omega arith in record {
      job = c.join_following_row_total.ensures.job ∙ before.job;
      joined = λ new rest.
          before.joined new
          (subst (λ l. AreJoinedBy c.loop-place.self.totals.items l new)
          (sym (drop-cons others place other within ∙ (λ i. sym c.index.ensures i ∷ drop (next i) others)))
          (c.join_following_row_total.new.self.totals.items, one, rest));
    }

pub returns-clause-joined : goal.returns-clause-joined
returns-clause-joined c = λ _.
    c.loop-place.invariant.joined c.loop-place.self.totals.items
    (subst (λ l. AreJoinedBy c.loop-place.self.totals.items l c.loop-place.self.totals.items)
    (sym (drop_all c.loop-place.place c.args.others.now.totals.items (omega (arith, c.loop-place-test.false)))) refl)
