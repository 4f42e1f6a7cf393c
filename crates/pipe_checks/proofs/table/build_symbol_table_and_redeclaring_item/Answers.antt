use Rattle.std.proofs.Common.{true, false, ap, sym, ◌∙◌, Some, if◌then◌else◌}
use Rattle.pipe_checks.specs.inside.Tables.{earlier}
use Rattle.pipe_checks.proofs.Declaring.{table_turn, table_none}
use Rattle.pipe_checks.proofs.table.build_symbol_table_and_redeclaring_item.Goals as goal
use Rattle.pipe_checks.proofs.table.build_symbol_table_and_redeclaring_item.Goals.{then-branch, else-branch}

pub loop-symbol-preserved : goal.loop-symbol-preserved
loop-symbol-preserved c =
    table_turn c.args.names.now c.loop-symbol.symbol-index _ c.loop-symbol-test.true c.symbol-item.is
    (record { table = c.loop-symbol.table; again = c.loop-symbol.again })
    (record { table = c.declare.new.self; again = c.if-branch.again }) c.loop-symbol.invariant c.in_ok-declare.field-0
    c.in_ok-declare.ensures.known c.in_ok-declare.ensures.table
    (elim c.if-branch.branch [
      | then-branch w ↦ w.again-is ∙ ap Some w.choose_first_redeclaring_item.ensures
          ∙ ap (λ b. if b then Some (earlier c.loop-symbol.again c.symbol-item.result.item) else c.loop-symbol.again) (sym w.if-branch.true)
      | else-branch w ↦ w.again-is
          ∙ ap (λ b. if b then Some (earlier c.loop-symbol.again c.symbol-item.result.item) else c.loop-symbol.again)
          (sym w.if-branch.false)
    ])
