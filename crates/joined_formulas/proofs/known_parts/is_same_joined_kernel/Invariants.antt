use Rattle.std.proofs.Common.{◌≡◌, take}
use Rattle.joined_formulas.proofs.known_parts.is_same_joined_kernel.Given as goal

abbrev pub invariant-loop-place : goal.invariant-loop-place
invariant-loop-place l = take l.place l.other ≡ take l.place l.kernel
