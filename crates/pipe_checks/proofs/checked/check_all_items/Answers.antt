use Rattle.std.proofs.Common.{◌≡◌, true}
use Rattle.pipe_tree.specs.Tree.{declaration, declarations}
use Rattle.pipe_checks.specs.Checking.{is_good}
use Rattle.pipe_checks.proofs.Places.{all_of_them, declaration_at, declarations_end}
use Rattle.domains.proofs.Places.{all_more}
use Rattle.pipe_checks.proofs.checked.check_all_items.Goals as goal

pub loop-number-preserved : goal.loop-number-preserved
loop-number-preserved c =
    all_more (λ k d. is_good c.args.declared.now d ≡ true) (declarations c.args.items.now) c.loop-number.number
    (declaration c.index-items-number.result)
    (declaration_at c.args.items.now c.loop-number.number _ c.loop-number-test.true c.index-items-number.is)
    c.in_default.ensures.good
    c.loop-number.invariant

pub returns : goal.returns
returns c =
    all_of_them (λ k d. is_good c.args.declared.now d ≡ true) (declarations c.args.items.now) c.loop-number.number
    (declarations_end c.args.items.now c.loop-number.number c.loop-number-test.false) c.loop-number.invariant
