use Rattle.std.proofs.Common.{rules, ◌∙◌, w16, w32, FitsSigned}
use Rattle.std.specs.Int.{int_min}
use Rattle.std.proofs.lemmas.Int.{to_z-of_z}
use Rattle.linear_rows.proofs.LinearMakes.{cut_shifted}
use Rattle.linear_rows.proofs.linear_make.LinearShift.shift_linear_number.Goals as goal

pub returns : goal.returns
returns c =
    let own = c.args.self.now in
    let low : FitsSigned w32 own.low = search rules in
    let high : FitsSigned w32 own.high = search rules in
    let quotient : FitsSigned w32 c.floor_shr.result = search rules in
    let first : FitsSigned w16 c.cut_linear_number.result = search rules in
    let second : FitsSigned w16 c.cut_linear_number-2.result = search rules in
    let third : FitsSigned w16 c.cut_linear_number-3.result = search rules in
    let greater : FitsSigned w16 c.max.result = search rules in
    let lesser : FitsSigned w16 c.min.result = search rules in
    let number : FitsSigned w32 c.args.number = search rules in
    let shift_is = simp to_z-of_z at c.floor_shr.ensures in
    let first_is = simp to_z-of_z at c.cut_linear_number.ensures in
    let second_is = simp to_z-of_z at c.cut_linear_number-2.ensures in
    let third_is = simp to_z-of_z at c.cut_linear_number-3.ensures in
    let max_is = simp to_z-of_z at c.max.ensures.value in
    let min_is = simp to_z-of_z at c.min.ensures.value in
    to_z-of_z w16 c.min.result lesser ∙ min_is
    ∙ (λ i. int_min (max_is i) c.cut_linear_number-3.result)
    ∙ cut_shifted own c.args.number c.floor_shr.result c.cut_linear_number.result c.cut_linear_number-2.result c.cut_linear_number-3.result
    shift_is first_is second_is third_is c.requires
