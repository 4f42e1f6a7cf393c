use Rattle.std.proofs.Common.{rules, arith, ◌≡◌, ◌<◌, length, ℕ, ℤ, List, w32, to_z, of_z, FitsSigned, ◌∙◌, add-one}
use Rattle.std.proofs.lemmas.Int.{to_z-of_z}
use Rattle.std.specs.Int.{int_min, int_max}
use Rattle.tile_eval.specs.Rows.{at}
use Rattle.reductions.proofs.KnownBins.{fold_next}
use Rattle.reductions.proofs.known_bins.find_least_and_greatest_bin_number.Goals as goal

pub loop-k-preserved : goal.loop-k-preserved
loop-k-preserved c =
    let k : ℕ = c.loop-k.k in
    let row : List ℤ = c.args.bins_of.now in
    let within : k < length row = omega arith in
    let number_fits : FitsSigned w32 (at row k) = search rules in
    let least_fits : FitsSigned w32 c.min-least.result = search rules in
    let greatest_fits : FitsSigned w32 c.max-greatest.result = search rules in
    let least : to_z w32 (of_z w32 c.min-least.result) ≡ int_min (to_z w32 c.loop-k.least-bits) (at row k) =
    to_z-of_z w32 c.min-least.result least_fits ∙ c.min-least.ensures.value
    ∙ (λ i. int_min (to_z w32 c.loop-k.least-bits) (to_z-of_z w32 (at row k) number_fits i)) in
    let greatest : to_z w32 (of_z w32 c.max-greatest.result) ≡ int_max (to_z w32 c.loop-k.greatest-bits) (at row k) =
    to_z-of_z w32 c.max-greatest.result greatest_fits ∙ c.max-greatest.ensures.value
    ∙ (λ i. int_max (to_z w32 c.loop-k.greatest-bits) (to_z-of_z w32 (at row k) number_fits i)) in
    record {
      least = rw add-one (fold_next int_min row k (to_z w32 c.loop-k.least-bits) _ _ within least c.loop-k.invariant.least);
      greatest = rw add-one (fold_next int_max row k (to_z w32 c.loop-k.greatest-bits) _ _ within greatest c.loop-k.invariant.greatest);
    }
