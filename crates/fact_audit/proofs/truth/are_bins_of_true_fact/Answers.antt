use Rattle.std.proofs.Common.{ℤ, List, ◌≡◌, subst}
use Rattle.std.specs.Prelude.{◌↔◌, IsTrue}
use Rattle.std.specs.Cmp.{signed_Decides}
use Rattle.std.proofs.lemmas.Slice.Eq.{slice_eq-Decides}
use Rattle.fact_audit.proofs.truth.are_bins_of_true_fact.Goals as goal

pub returns : goal.returns
returns c =
    subst (λ (ys : List ℤ). IsTrue c.eq.result ↔ (c.args.bins.now ≡ ys)) c.as_slice.ensures.value
    (slice_eq-Decides signed_Decides c.args.bins.now c.as_slice.result.now c.eq.result c.eq.ensures)
