use Rattle.std.proofs.Common.{rules, arith, ◌≡◌, ◌+ℤ◌, ◌≤ℤ◌, ℕ, ℤ, List, pos, w32, to_z, of_z, FitsSigned, ap, sym, ◌∙◌}
use Rattle.std.specs.Prelude.{◌<ℤ◌, fold}
use Rattle.std.specs.Int.{int_min, int_max}
use Rattle.std.proofs.lemmas.Int.{ints, to_z-of_z}
use Rattle.reductions.proofs.KnownBins.{all_among, first_is_least, greatest_has_place}
use Rattle.reductions.proofs.known_bins.are_row_bins_among.Goals as goal

pub returns-then-least-lo-clause-found : goal.returns-then-least-lo-clause-found
returns-then-least-lo-clause-found c = λ some each.
    let row : List ℤ = c.args.bins_of.now in
    let r : ℤ = c.find_least_and_greatest_bin_number-least.result.0 in
    let lo_fits : FitsSigned w32 c.args.lo = search rules in
    let least_fits : FitsSigned w32 c.find_least_and_greatest_bin_number-least.result.0 = search rules in
    let lo : to_z w32 (of_z w32 c.args.lo) ≡ c.args.lo = to_z-of_z w32 c.args.lo lo_fits in
    let least : to_z w32 (of_z w32 r) ≡ r = to_z-of_z w32 r least_fits in
    let low : r ≡ fold int_min c.args.lo row = c.find_least_and_greatest_bin_number-least.ensures.least ∙ ap (λ (z : ℤ). fold int_min z row) lo in
    let first : c.args.lo ≤ℤ r = first_is_least c.args.lo c.args.count row r low each in
    let under : r <ℤ c.args.lo = first_of (omega (arith, ints, lo, least, c.if-least-lo.true), grind (arith, ints, lo, least, c.if-least-lo.true)) in
    absurd (omega (arith, ints, first, under))

pub returns-in-Some-clause-among : goal.returns-in-Some-clause-among
returns-in-Some-clause-among c = λ yes k h.
    let row : List ℤ = c.args.bins_of.now in
    let place : ℕ = c.in-Some.field-0 in
    let is = c.in-Some.ensures.some in
    let r : ℤ = c.find_least_and_greatest_bin_number-least.result.0 in
    let s : ℤ = c.find_least_and_greatest_bin_number-least.result.1 in
    let lo_fits : FitsSigned w32 c.args.lo = search rules in
    let least_fits : FitsSigned w32 c.find_least_and_greatest_bin_number-least.result.0 = search rules in
    let greatest_fits : FitsSigned w32 c.find_least_and_greatest_bin_number-least.result.1 = search rules in
    let lo : to_z w32 (of_z w32 c.args.lo) ≡ c.args.lo = to_z-of_z w32 c.args.lo lo_fits in
    let least : to_z w32 (of_z w32 r) ≡ r = to_z-of_z w32 r least_fits in
    let greatest : to_z w32 (of_z w32 s) ≡ s = to_z-of_z w32 s greatest_fits in
    let low : r ≡ fold int_min c.args.lo row = c.find_least_and_greatest_bin_number-least.ensures.least ∙ ap (λ (z : ℤ). fold int_min z row) lo in
    let high : s ≡ fold int_max c.args.lo row = c.find_least_and_greatest_bin_number-least.ensures.greatest ∙ ap (λ (z : ℤ). fold int_max z row) lo in
    let first : c.args.lo ≤ℤ r = first_of (omega (arith, ints, lo, least, c.if-least-lo.false), grind (arith, ints, lo, least, c.if-least-lo.false)) in
    let there : c.args.lo +ℤ pos place ≡ s = ap (λ (z : ℤ). z +ℤ pos place) (sym lo) ∙ is.1 ∙ greatest in
    all_among c.args.lo c.args.count row r s place low high first is.0 there k h

pub returns-in_default-clause-found : goal.returns-in_default-clause-found
returns-in_default-clause-found c = λ some each.
    let row : List ℤ = c.args.bins_of.now in
    let s : ℤ = c.find_least_and_greatest_bin_number-least.result.1 in
    let lo_fits : FitsSigned w32 c.args.lo = search rules in
    let greatest_fits : FitsSigned w32 c.find_least_and_greatest_bin_number-least.result.1 = search rules in
    let lo : to_z w32 (of_z w32 c.args.lo) ≡ c.args.lo = to_z-of_z w32 c.args.lo lo_fits in
    let greatest : to_z w32 (of_z w32 s) ≡ s = to_z-of_z w32 s greatest_fits in
    let high : s ≡ fold int_max c.args.lo row = c.find_least_and_greatest_bin_number-least.ensures.greatest ∙ ap (λ (z : ℤ). fold int_max z row) lo in
    let found = greatest_has_place c.args.lo c.args.count row s high some each in
    absurd (c.in_default.ensures.none found.0 found.1
    (ap (λ (z : ℤ). z +ℤ pos found.0) lo ∙ found.2 ∙ sym greatest))
