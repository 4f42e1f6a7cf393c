use Rattle.std.proofs.Common.{rules, ◌≡◌, ◌+ℤ◌, ℤ, List, pos, w32, w64, FitsSigned, ap, sym, ◌∙◌}
use Rattle.std.proofs.lemmas.Int.{to_z-of_z}
use Rattle.tile_eval.specs.Rows.{at}
use Rattle.reductions.specs.inside.Gathering.{after_values}
use Rattle.reductions.proofs.TakeValues.{row_at, row_nowhere}
use Rattle.reductions.proofs.side_by_side.accumulate_values_in_one_bin.Goals as goal

pub returns-in-Some : goal.returns-in-Some
returns-in-Some g c =
    let is = c.in-Some.ensures.some in
    let place = c.in-Some.place in
    let vs : List ℤ = g.V.BinValues.values c.args.values in
    let fits : FitsSigned w64 c.reduce_row_values_into_bin_total.result = search rules in
    let old_fits : FitsSigned w64 (at c.args.bins.now place) = search rules in
    let new : c.reduce_row_values_into_bin_total.result ≡ after_values c.args.op (at c.args.bins.now place) vs =
    c.reduce_row_values_into_bin_total.ensures ∙ ap (λ z. after_values c.args.op z vs) (to_z-of_z w64 (at c.args.bins.now place) old_fits) in
    let lo_fits : FitsSigned w32 c.args.lo = search rules in
    let bin_fits : FitsSigned w32 c.args.bin = search rules in
    let there : c.args.lo +ℤ pos place ≡ c.args.bin = ap (λ (z : ℤ). z +ℤ pos place) (sym (to_z-of_z w32 c.args.lo lo_fits)) ∙ is.1
    ∙ to_z-of_z w32 c.args.bin bin_fits in
    row_at c.args.op c.args.bins.now vs place c.args.lo c.args.bin _ is.0 there
    (to_z-of_z w64 c.reduce_row_values_into_bin_total.result fits ∙ new)

pub returns-in_default : goal.returns-in_default
returns-in_default g c = λ j h.
    let lo_fits : FitsSigned w32 c.args.lo = search rules in
    let bin_fits : FitsSigned w32 c.args.bin = search rules in
    row_nowhere c.args.op (g.V.BinValues.values c.args.values) c.args.bin (c.args.lo +ℤ pos j) (at c.args.bins.now j) (λ e. c.in_default.ensures.none j h
    (ap (λ (z : ℤ). z +ℤ pos j) (to_z-of_z w32 c.args.lo lo_fits) ∙ e ∙ sym (to_z-of_z w32 c.args.bin bin_fits)))
