use Rattle.std.proofs.Common.{◌≡◌, ◌/◌, ◌%◌, length, arith, refl, sym, ◌∙◌}
use Rattle.std.proofs.lemmas.Bool.Decides.{nat_tests}
use Rattle.std.proofs.lemmas.Option.{slice_get_past, slice_get_read}
use Rattle.grouping.proofs.CrossedLists.{none_crossed, one_crossed, empty_crossed}
use Rattle.grouping.proofs.boxes.find_separable_box_by_tile_number.Goals as goal

pub returns-then-is_empty : goal.returns-then-is_empty
returns-then-is_empty c =
    let none : length c.args.cols.now ≡ 0 = grind (arith, nat_tests, c.is_empty.ensures, c.if-is_empty.true) in
    sym (empty_crossed c.args.rows.now c.args.cols.now c.args.place none)

pub returns-in_err-across : goal.returns-in_err-across
returns-in_err-across c =
    c.from_residual.ensures ∙ sym (none_crossed c.args.rows.now c.args.cols.now c.args.place
    (slice_get_past c.args.rows.now (c.args.place / length c.args.cols.now) c.in_err-across.ensures.lookup.3))

pub returns : goal.returns
returns c =
    sym (one_crossed c.args.rows.now c.args.cols.now c.args.place c.in_ok-across.field-0.now c.in_ok-down.field-0.now
    (slice_get_read c.args.rows.now (length c.args.rows.now) (c.args.place / length c.args.cols.now) c.in_ok-across.field-0.now refl
    c.in_ok-across.ensures.lookup.3.0 c.in_ok-across.ensures.lookup.1)
    (slice_get_read c.args.cols.now (length c.args.cols.now) (c.args.place % length c.args.cols.now) c.in_ok-down.field-0.now refl
    c.in_ok-down.ensures.lookup.3.0 c.in_ok-down.ensures.lookup.1))
