use Rattle.std.proofs.Common.{arith, inl, inr, sym, ◌∙◌, ap}
use Rattle.std.proofs.lemmas.Bool.{false≢true}
use Rattle.pipe_tree.specs.Tree.{declaration, declarations}
use Rattle.pipe_checks.specs.Names.{symbols_declared_by_items}
use Rattle.pipe_checks.specs.Twice.{item_variables, has_variable_with_name_used_twice}
use Rattle.pipe_checks.specs.Checking.{IsTwice}
use Rattle.pipe_checks.proofs.Places.{all_of_them, declaration_at, declarations_end, first_twice_is}
use Rattle.pipe_checks.proofs.Declaring.{varies_same, is_again, passed_again, not_number, none_again}
use Rattle.domains.proofs.Places.{all_more}
use Rattle.pipe_checks.proofs.twice.find_item_with_name_declared_twice.Goals as goal
use Rattle.pipe_checks.proofs.twice.find_item_with_name_declared_twice.Goals.{then-is_first_redeclaring_item-via-then-is_first_redeclaring_item}
use Rattle.pipe_checks.proofs.twice.find_item_with_name_declared_twice.Goals.{then-is_first_redeclaring_item-via-else-is_first_redeclaring_item+then-has_variable_with_name_used_twice}

pub returns-then-is_first_redeclaring_item-clause-first : goal.returns-then-is_first_redeclaring_item-clause-first
returns-then-is_first_redeclaring_item-clause-first c =
    let names = symbols_declared_by_items (declarations c.args.items.now) in
    let declared = c.args.declared.now in
    first_twice_is names c.args.items.now c.loop-number.number _ c.loop-number-test.true c.index-items-number.is
    (elim c.then-is_first_redeclaring_item.branch [
      | then-is_first_redeclaring_item-via-then-is_first_redeclaring_item w ↦ inl
          (is_again names declared.again c.loop-number.number c.requires.first (sym c.is_first_redeclaring_item.ensures ∙ w.if-is_first_redeclaring_item.true))
      | then-is_first_redeclaring_item-via-else-is_first_redeclaring_item+then-has_variable_with_name_used_twice w ↦
          inr (sym (w.has_variable_with_name_used_twice.ensures ∙ ap (has_variable_with_name_used_twice declared.table) w.item_variables.ensures
          ∙ varies_same names declared.table (item_variables (declaration c.index-items-number.result)) c.requires.known)
          ∙ w.if-has_variable_with_name_used_twice.true)
    ])
    c.loop-number.invariant.0

pub loop-number-preserved : goal.loop-number-preserved
loop-number-preserved c =
    let names = symbols_declared_by_items (declarations c.args.items.now) in
    let declared = c.args.declared.now in
    let here = sym c.is_first_redeclaring_item.ensures ∙ c.if-is_first_redeclaring_item.false in (
      all_more (λ k d. IsTwice names k d → ⊥) (declarations c.args.items.now) c.loop-number.number (declaration c.index-items-number.result)
          (declaration_at c.args.items.now c.loop-number.number _ c.loop-number-test.true c.index-items-number.is)
          (λ h. elim h [
            | inl a ↦ passed_again names declared.again c.loop-number.number c.requires.first c.loop-number.invariant.1 here a
            | inr v ↦
                false≢true (sym c.if-has_variable_with_name_used_twice.false ∙ c.has_variable_with_name_used_twice.ensures ∙ ap (has_variable_with_name_used_twice declared.table) c.item_variables.ensures
                ∙ varies_same names declared.table (item_variables (declaration c.index-items-number.result)) c.requires.known ∙ v)
          ])
          c.loop-number.invariant.0,
      λ k l. not_number declared.again c.loop-number.number k l here c.loop-number.invariant.1,
    )

pub returns-clause-none : goal.returns-clause-none
returns-clause-none c =
    all_of_them (λ k d. IsTwice (symbols_declared_by_items (declarations c.args.items.now)) k d → ⊥) (declarations c.args.items.now)
    c.loop-number.number
    (declarations_end c.args.items.now c.loop-number.number c.loop-number-test.false) c.loop-number.invariant.0

pub returns-clause-same : goal.returns-clause-same
returns-clause-same c =
    let ds = declarations c.args.items.now in
    let end = declarations_end c.args.items.now c.loop-number.number c.loop-number-test.false in
    c.requires.whole (none_again ds c.args.declared.now.again c.requires.first (λ k l. c.loop-number.invariant.1 k (omega (arith, l, end))))
