use Rattle.std.proofs.Common.{◌≡◌, slice_get, Some, IsTrue, FitsSigned, w32, refl, sym, ap, subst, ◌∙◌, rules}
use Rattle.std.proofs.lemmas.Int.{to_z-of_z}
use Rattle.row_rings.proofs.Places.{found_at}
use Rattle.row_rings.proofs.ring.RowRings.keeps_ring_row.Goals as goal

pub returns-in-Some : goal.returns-in-Some
returns-in-Some g c = λ kept.
    let ring = c.in-Some.ring.now in
    let row : FitsSigned w32 c.args.row = search rules in
    let there : slice_get c.deref.result.now c.args.stage ≡ Some ring =
    found_at c.deref.result.now c.args.stage ring c.in-Some.ensures.lookup.0 c.in-Some.ensures.lookup.1 in record {
      ring = ring;
      there = ap (λ rings. slice_get rings c.args.stage) (sym c.deref.ensures.value) ∙ there;
      row = rw (to_z-of_z w32 c.args.row row) at (c.keeps_row.ensures.0 (subst IsTrue (sym kept) refl));
    }
