use Rattle.std.proofs.Common.{rules, sym, subst}
use Rattle.job.specs.declared.formula.Formula.{Formula as KeptFormula}
use Rattle.job.specs.Formula.{binary, ternary, select}
use Rattle.job.specs.Views.{formula_view}
use Rattle.tile_eval.specs.Counted.{IsLeast}
use Rattle.tile_eval.specs.inside.Counted.{IsCounted}
use Rattle.tile_eval.specs.Reading.{HasRoom}
use Rattle.tile_eval.proofs.Rooms.{room_of, formula_counted, counted_formula}
use Rattle.tile_eval.proofs.room.+compute_operand_capacity_of_formula.Goals as goal

pub returns-in-Binary : goal.returns-in-Binary
returns-in-Binary t c =
    let f = binary c.in-Binary.field-0 (formula_view c.in-Binary.a.value) (formula_view c.in-Binary.b.value) in
    let left : IsCounted c.compute_operand_capacity_of_formula-in-Binary.result (room_of (formula_view c.in-Binary.a.value) c.args.n) =
    formula_counted (formula_view c.in-Binary.a.value) c.args.n c.compute_operand_capacity_of_formula-in-Binary.result (search rules) in
    let right : IsCounted c.compute_operand_capacity_of_formula.result (room_of (formula_view c.in-Binary.b.value) c.args.n) =
    formula_counted (formula_view c.in-Binary.b.value) c.args.n c.compute_operand_capacity_of_formula.result (search rules) in
    subst (λ (f : KeptFormula). IsLeast (HasRoom (formula_view f) c.args.n) c.find_greater_capacity.result) (sym c.in-Binary.is)
    (counted_formula f c.args.n c.find_greater_capacity.result
    (c.find_greater_capacity.ensures _ _ left (c.add_capacity_of_rows-right.ensures _ right)))

pub returns-in-Ternary : goal.returns-in-Ternary
returns-in-Ternary t c =
    let f = ternary c.in-Ternary.field-0 (formula_view c.in-Ternary.a.value) (formula_view c.in-Ternary.b.value) (formula_view c.in-Ternary.c.value) in
    let second : IsCounted c.compute_operand_capacity_of_formula-in-Ternary.result (room_of (formula_view c.in-Ternary.b.value) c.args.n) =
    formula_counted (formula_view c.in-Ternary.b.value) c.args.n c.compute_operand_capacity_of_formula-in-Ternary.result (search rules) in
    let third : IsCounted c.compute_operand_capacity_of_formula-in-Ternary-2.result (room_of (formula_view c.in-Ternary.c.value) c.args.n) =
    formula_counted (formula_view c.in-Ternary.c.value) c.args.n c.compute_operand_capacity_of_formula-in-Ternary-2.result (search rules) in
    let first : IsCounted c.compute_operand_capacity_of_formula-in-Ternary-3.result (room_of (formula_view c.in-Ternary.a.value) c.args.n) =
    formula_counted (formula_view c.in-Ternary.a.value) c.args.n c.compute_operand_capacity_of_formula-in-Ternary-3.result (search rules) in
    subst (λ (f : KeptFormula). IsLeast (HasRoom (formula_view f) c.args.n) c.find_greater_capacity-in-Ternary.result) (sym c.in-Ternary.is)
    (counted_formula f c.args.n c.find_greater_capacity-in-Ternary.result
    (c.find_greater_capacity-in-Ternary.ensures _ _ first
    (c.add_capacity_of_rows.ensures _ (c.find_greater_capacity-rest.ensures _ _ second third))))

pub returns-in-Select : goal.returns-in-Select
returns-in-Select t c =
    let f =
    select (formula_view c.in-Select.a.value) c.in-Select.field-1 (formula_view c.in-Select.b.value)
    (formula_view c.in-Select.first.value) (formula_view c.in-Select.second.value) in
    let left : IsCounted c.compute_operand_capacity_of_formula-in-Select.result (room_of (formula_view c.in-Select.a.value) c.args.n) =
    formula_counted (formula_view c.in-Select.a.value) c.args.n c.compute_operand_capacity_of_formula-in-Select.result (search rules) in
    let right : IsCounted c.compute_operand_capacity_of_formula-in-Select-2.result (room_of (formula_view c.in-Select.b.value) c.args.n) =
    formula_counted (formula_view c.in-Select.b.value) c.args.n c.compute_operand_capacity_of_formula-in-Select-2.result (search rules) in
    let other : IsCounted c.compute_operand_capacity_of_formula-in-Select-3.result (room_of (formula_view c.in-Select.second.value) c.args.n) =
    formula_counted (formula_view c.in-Select.second.value) c.args.n c.compute_operand_capacity_of_formula-in-Select-3.result (search rules) in
    let taken : IsCounted c.compute_operand_capacity_of_formula-in-Select-4.result (room_of (formula_view c.in-Select.first.value) c.args.n) =
    formula_counted (formula_view c.in-Select.first.value) c.args.n c.compute_operand_capacity_of_formula-in-Select-4.result (search rules) in
    subst (λ (f : KeptFormula). IsLeast (HasRoom (formula_view f) c.args.n) c.find_greater_capacity-in-Select.result) (sym c.in-Select.is)
    (counted_formula f c.args.n c.find_greater_capacity-in-Select.result
    (c.find_greater_capacity-in-Select.ensures _ _ taken
    (c.add_capacity_of_rows-in-Select.ensures _
    (c.find_greater_capacity-others.ensures _ _ (c.find_greater_capacity-compared.ensures _ _ left right) other))))
