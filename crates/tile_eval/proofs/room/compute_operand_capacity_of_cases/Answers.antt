use Rattle.std.proofs.Common.{rules, ◌≤◌, length, List, subst, sym, add-one, arith}
use Rattle.std.proofs.lemmas.List.{take_all}
use Rattle.job.specs.declared.stage.JobCase.{JobCase as KeptCase}
use Rattle.job.specs.Views.{formula_view}
use Rattle.tile_eval.specs.inside.Counted.{IsCounted}
use Rattle.tile_eval.proofs.Rooms.{room_of, cases_room_of, cases_room_next, cases_from, formula_counted, counted_least}
use Rattle.tile_eval.proofs.room.compute_operand_capacity_of_cases.Goals as goal

pub loop-case-preserved : goal.loop-case-preserved
loop-case-preserved c =
    let found : IsCounted c.compute_operand_capacity_of_formula.result (room_of (formula_view c.case-item.result.formula) c.args.n) =
    formula_counted (formula_view c.case-item.result.formula) c.args.n c.compute_operand_capacity_of_formula.result (search rules) in
    rw add-one (subst (IsCounted c.find_greater_capacity-room.result)
    (sym (cases_room_next c.args.cases.now c.loop-case.case-index c.case-item.result c.args.n c.loop-case-test.true c.case-item.is))
    (c.find_greater_capacity-room.ensures _ _ c.loop-case.invariant found))

pub returns : goal.returns
returns c =
    let end : length c.args.cases.now ≤ c.loop-case.case-index = omega arith in
    counted_least _ (cases_room_of c.args.cases.now c.args.n) _ (cases_from c.args.cases.now c.args.n)
    (subst (λ (ps : List KeptCase). IsCounted c.loop-case.room (cases_room_of ps c.args.n))
    (take_all c.loop-case.case-index c.args.cases.now end) c.loop-case.invariant)
