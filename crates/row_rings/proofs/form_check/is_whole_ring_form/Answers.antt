use Rattle.std.proofs.Common.{◌≡◌, slice_get, Some, ap, ◌∙◌, sym}
use Rattle.row_rings.proofs.Places.{found_at}
use Rattle.row_rings.proofs.form_check.is_whole_ring_form.Goals as goal

pub returns-in-Some-Some : goal.returns-in-Some-Some
returns-in-Some-Some c = λ e.
    let form = c.in-Some-Some.form.now in
    let state = c.in-Some-Some.state.now in
    let is = c.has_same_ring_form.ensures in
    let same : form ≡ state = λ i. record {
      area = record { rows = is.rows e i; cols = is.cols e i };
      kept = is.kept e i;
      first = is.first e i;
      next = is.next e i;
    } in
    let own : slice_get c.args.kept.now c.args.stage ≡ Some form =
    found_at c.args.kept.now c.args.stage form c.in-Some-Some.ensures.lookup.0 c.in-Some-Some.ensures.lookup.1 in
    let whole : slice_get c.args.states.now c.args.stage ≡ Some state =
    found_at c.args.states.now c.args.stage state c.in-Some-Some.ensures'.lookup.0 c.in-Some-Some.ensures'.lookup.1 in
    own ∙ ap Some same ∙ sym whole
