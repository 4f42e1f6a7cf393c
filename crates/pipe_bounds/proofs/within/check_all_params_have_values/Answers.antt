use Rattle.std.proofs.Common.{ℤ, ◌≡◌, Some, length, subst, ◌≤◌}
use Rattle.pipe_bounds.specs.declared.params.Setting.{Setting}
use Rattle.pipe_checks.proofs.Places.{all_of_them}
use Rattle.domains.proofs.Places.{all_more}
use Rattle.pipe_bounds.proofs.Stages.{some_of}
use Rattle.domains.proofs.Places.{here_is}
use Rattle.pipe_bounds.proofs.within.check_all_params_have_values.Goals as goal

pub loop-number-preserved : goal.loop-number-preserved
loop-number-preserved c =
    all_more (λ k (s : Setting). (v : ℤ) × (s.value ≡ Some v)) c.args.params.now c.loop-number.number c.setting-item.result
    (here_is c.settings-setting-items.result.now c.args.params.now c.loop-number.number _ c.settings-setting-items.ensures
    c.loop-number-test.true c.setting-item.is)
    (some_of c.setting-item.result.value c.if-is_none.ensures)
    c.loop-number.invariant

pub returns : goal.returns
returns c =
    all_of_them (λ k (s : Setting). (v : ℤ) × (s.value ≡ Some v)) c.args.params.now c.loop-number.number
    (subst (λ xs. length xs ≤ c.loop-number.number) c.settings-setting-items.ensures c.loop-number-test.false) c.loop-number.invariant
