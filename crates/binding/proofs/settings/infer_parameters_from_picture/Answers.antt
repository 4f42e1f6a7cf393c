use Rattle.std.proofs.Common.{ℕ, suc, arith, ℤ, ◌≡◌, ◌+◌, ◌++◌, ◌∷◌, [], List, Option, take, sym, subst, ap, ◌∙◌}
use Rattle.pipe_bounds.specs.declared.params.Setting.{Setting}
use Rattle.domains.proofs.Places.{here_is}
use Rattle.binding.specs.Binding.{settings_for, AreSmall}
use Rattle.binding.proofs.SmallSettings.{small_more, settings_more}
use Rattle.binding.proofs.settings.infer_parameters_from_picture.Goals as goal

pub loop-setting-preserved : goal.loop-setting-preserved
loop-setting-preserved c =
    let image = c.args.image.now in
    let picture = c.args.picture.now in
    let given = c.args.params.now in
    let n = c.loop-setting.setting-index in
    let x = c.setting-item.result in
    let there =
    here_is c.settings-setting-items.result.now given n _ c.settings-setting-items.ensures c.loop-setting-test.true c.setting-item.is in
    let value = ap (λ (v : Option ℤ). let s : Setting = record { name = x.name; value = v } in s) c.keep_value_or_infer_parameter.ensures.value in
    let next : suc n ≡ n + 1 = omega arith in (
      c.in_ok-push.ensures.items
          ∙ (ap (λ (ss : List Setting). ss ++ record { name = x.name; value = c.keep_value_or_infer_parameter.result } ∷ []) c.loop-setting.invariant.0
          ∙ (ap (λ (s : Setting). settings_for image picture (take n given) ++ s ∷ []) value
          ∙ (sym (settings_more image picture given n x there)
          ∙ ap (λ (k : ℕ). settings_for image picture (take k given)) next))),
      subst AreSmall (sym c.in_ok-push.ensures.items)
          (small_more c.loop-setting.settings.items _ c.loop-setting.invariant.1 c.keep_value_or_infer_parameter.ensures.small),
    )
