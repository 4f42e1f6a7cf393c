use Rattle.std.proofs.Common.{rules, ◌≡◌, ◌+ℤ◌, pos, w32, w64, to_z, of_z, FitsSigned, ◌∙◌, refl}
use Rattle.std.proofs.lemmas.Int.{to_z-of_z}
use Rattle.job.specs.Totals.{joined}
use Rattle.tile_eval.specs.Rows.{at}
use Rattle.reductions.proofs.TakeValues.{taken_at}
use Rattle.reductions.proofs.bins.accumulate_value_at_bin_place.Goals as goal

pub returns : goal.returns
returns c = λ lo.
    let fits : FitsSigned w64 c.join_two_numbers_of_bin.result = search rules in
    let old_fits : FitsSigned w64 (at c.args.bins.now c.args.place) = search rules in
    let value_fits : FitsSigned w32 c.args.value = search rules in
    let from_fits : FitsSigned w64 c.from.result = search rules in
    let value : to_z w64 (of_z w64 c.from.result) ≡ c.args.value = to_z-of_z w64 c.from.result from_fits ∙ c.from.ensures
    ∙ to_z-of_z w32 c.args.value value_fits in
    let new : c.join_two_numbers_of_bin.result ≡ joined c.args.op (at c.args.bins.now c.args.place) c.args.value =
    c.join_two_numbers_of_bin.ensures ∙ (λ i. joined c.args.op (to_z-of_z w64 (at c.args.bins.now c.args.place) old_fits i) (value i)) in
    taken_at c.args.op c.args.bins.now c.args.place lo (lo +ℤ pos c.args.place) c.args.value _ c.requires refl
    (to_z-of_z w64 c.join_two_numbers_of_bin.result fits ∙ new)
