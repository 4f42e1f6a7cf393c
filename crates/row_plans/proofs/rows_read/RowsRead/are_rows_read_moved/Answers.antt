use Rattle.std.proofs.Common.{◌≡◌, ◌∙◌, ap, sym, arith, length, refl, pos, w32, to_z, of_z}
use Rattle.std.proofs.lemmas.Int.{ints}
use Rattle.std.proofs.lemmas.Option.{same_Some, slice_get_read}
use Rattle.row_plans.specs.Rows.{next_row}
use Rattle.row_plans.specs.Rows.{next_row}
use Rattle.row_plans.proofs.rows_read.RowsRead.are_rows_read_moved.Goals as goal

pub returns-then-lo-next : goal.returns-then-lo-next
returns-then-lo-next c = λ yes states d moved. record {
  moved = λ s own r low held.
      let begun = c.args.begun.now in
      let window = c.in-Some-Some-Some.window.now in
      let there = slice_get_read begun (length begun) c.args.reader window refl c.in-Some-Some-Some.ensures.lookup.3.0 c.in-Some-Some-Some.ensures.lookup.1 in
      let has = moved.before c.args.reader window there in
      let next : window.next ≡ next_row s = has.2.next ∙ ap next_row (same_Some has.0 s (sym has.1 ∙ own)) in
      let made : to_z w32 (of_z w32 c.in-Some-Some-Some.made) ≡ pos (d c.args.reader) = let e = c.in-Some-Some-Some.ensures' states d moved in omega (arith, ints, e) in
      let far : to_z w32 (of_z w32 c.in-Some-Some-Some.moved) ≡ pos (d c.args.self.now.stage) = let e = c.in-Some-Some-Some.ensures'' states d moved in omega (arith, ints, e) in
      ((omega (arith, ints, next, low), omega (arith, ints, held.1)), rw (made, far) at (c.moves_with_rows.ensures yes r));
}
