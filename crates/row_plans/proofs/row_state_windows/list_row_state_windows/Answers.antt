use Rattle.std.proofs.Common.{◌≡◌, arith, length, refl, sym, subst, slice_get, Some}
use Rattle.std.proofs.lemmas.Option.{slice_get_read}
use Rattle.row_plans.specs.Windows.{AreWindowsOf}
use Rattle.row_plans.proofs.Windows.{windows_pushed}
use Rattle.row_plans.proofs.row_state_windows.list_row_state_windows.Goals as goal

pub loop-state-preserved : goal.loop-state-preserved
loop-state-preserved c =
    let states = c.args.states.now in
    let windows = c.loop-state.windows.items in
    let state = c.state-item.result in
    let here = slice_get_read states (length states) c.loop-state.state-index state refl c.loop-state-test.true c.state-item.is in
    let own = subst (λ n. slice_get states n ≡ Some state) (sym c.loop-state.invariant.0) here in (
      omega (arith, c.in_ok-push-in-Some.ensures.len, c.loop-state.windows.ok.0, c.push.new.self.ok.0),
      subst (AreWindowsOf states) (sym c.in_ok-push-in-Some.ensures.items)
          (windows_pushed states windows state c.in-Some.window c.loop-state.invariant.1 own c.in-Some.ensures),
    )
