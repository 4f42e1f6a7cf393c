-- The numbers and the printed names of the fault of a tile.
use Rattle.std.specs.Prelude.{ℕ, List, codes}
use Rattle.one_tile.specs.declared.tile_fault.EvalFault.{EvalFault}
use Rattle.one_tile.specs.declared.tile_fault.EvalFault.TheVariants as eval

abbrev pub eval_number : EvalFault → ℕ
eval_number (eval.Missing key) = 1
eval_number eval.Memory = 2

abbrev pub eval_name : EvalFault → List ℕ
eval_name (eval.Missing key) = codes "Missing"
eval_name eval.Memory = codes "Memory"
