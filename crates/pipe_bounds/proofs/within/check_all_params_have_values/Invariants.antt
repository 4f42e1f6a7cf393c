use Rattle.std.proofs.Common.{ℕ, ℤ, ◌<◌, ◌≡◌, Some, slice_get}
use Rattle.pipe_bounds.specs.declared.params.Setting.{Setting}
use Rattle.pipe_bounds.proofs.within.check_all_params_have_values.Given as goal

abbrev pub invariant-loop-number : goal.invariant-loop-number
invariant-loop-number l = (k : ℕ) (s : Setting) → k < l.number → slice_get l.params k ≡ Some s → (v : ℤ) × (s.value ≡ Some v)
