use Rattle.std.proofs.Common.{◌≡◌, ◌∙◌, ap, refl}
use Rattle.std.proofs.lemmas.Option.{get_or_from_slice_get}
use Rattle.row_totals.specs.declared.row_total.RowTotal.{RowTotal}
use Rattle.row_totals.proofs.row_totals.RowTotals.join_following_row_total.Goals as goal

pub returns-clause-joined : goal.returns-clause-joined
returns-clause-joined c = λ _.
    let found = c.in-Some.ensures.some in
    let old = c.index_mut.result.now in
    let same : old ≡ found.0 = c.index_mut.ensures.value ∙ get_or_from_slice_get c.args.self.now.totals.items c.in-Some.place found.0 old found.1 in
    record {
      place = c.in-Some.place;
      total = found.0;
      there = found.1;
      follows = found.2;
      joined = c.join_following_summed_rows.new.self;
      stage = c.join_following_summed_rows.ensures.stage ∙ ap (λ (t : RowTotal). t.stage) same;
      first = c.join_following_summed_rows.ensures.first ∙ ap (λ (t : RowTotal). t.first) same;
      next = c.join_following_summed_rows.ensures.next;
      others = refl;
    }
