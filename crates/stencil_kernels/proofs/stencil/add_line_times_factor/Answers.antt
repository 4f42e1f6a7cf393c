use Rattle.std.proofs.Common.{rules, ℤ, ◌≡◌, ◌+ℤ◌, ◌*ℤ◌, pos, w32, FitsSigned, ◌∙◌, ap, sym}
use Rattle.std.proofs.lemmas.Int.{to_z-of_z}
use Rattle.domains.specs.Arithmetic.{wrapped}
use Rattle.row_loops.specs.Rows.{at}
use Rattle.stencil_kernels.proofs.Taps.{tap_of_one, tap_of_other}
use Rattle.stencil_kernels.proofs.stencil.add_line_times_factor.Goals as goal

pub returns-in-1 : goal.returns-in-1
returns-in-1 c = λ k h s e.
    let one : c.args.factor ≡ pos 1 = search rules in
    tap_of_one s _ (at c.args.line.now k) _ e (c.combine_row_in_place.ensures k h) ∙ ap (λ (f : ℤ). wrapped (s +ℤ f *ℤ at c.args.line.now k)) (sym one)

pub returns-in_default : goal.returns-in_default
returns-in_default c = λ k h s e.
    let factor : FitsSigned w32 c.args.factor = search rules in
    let here = simp to_z-of_z at (c.combine_row_in_place-in_default.ensures k h) in
    tap_of_other s _ (c.args.factor *ℤ at c.args.line.now k) _ e here
