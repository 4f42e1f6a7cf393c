use Rattle.std.proofs.Common.{◌≡◌, take}
use Rattle.binding.specs.Binding.{settings_for, AreSmall}
use Rattle.binding.proofs.settings.infer_parameters_from_picture.Given as goal

abbrev pub invariant-loop-setting : goal.invariant-loop-setting
invariant-loop-setting l = (l.settings.items ≡ settings_for l.image l.picture (take l.setting-index l.params)) × AreSmall l.settings.items
