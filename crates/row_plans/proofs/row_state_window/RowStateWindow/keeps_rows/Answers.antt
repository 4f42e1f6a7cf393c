use Rattle.std.proofs.Common.{arith}
use Rattle.std.proofs.lemmas.Int.{ints}
use Rattle.row_plans.proofs.Windows.{window_keeps}
use Rattle.row_plans.proofs.row_state_window.RowStateWindow.keeps_rows.Goals as goal

pub returns-then-self-first : goal.returns-then-self-first
returns-then-self-first c = λ yes state is row above below. window_keeps state c.args.self.now is row (omega (arith, ints)) (omega (arith, ints))
