use Rattle.std.proofs.Common.{◌≡◌, Some, slice_get, IsTrue, refl, sym, subst}
use Rattle.value_ranges.proofs.Composing.{narrow_fits}
use Rattle.row_rings.proofs.Places.{found_at}
use Rattle.row_rings.proofs.form_check.is_fitting_narrow_ring.Goals as goal

pub returns-in-Some : goal.returns-in-Some
returns-in-Some c = λ e s there valued r k inside.
    let found : slice_get c.args.ranges.now c.args.stage ≡ Some c.in-Some.range.now =
    found_at c.args.ranges.now c.args.stage c.in-Some.range.now c.in-Some.ensures.lookup.0 c.in-Some.ensures.lookup.1 in
    narrow_fits c.in-Some.range.now _ (c.is_narrow_value_range.ensures.0 (subst IsTrue (sym e) refl))
    (c.requires c.args.stage c.in-Some.range.now s found there valued r k inside)
