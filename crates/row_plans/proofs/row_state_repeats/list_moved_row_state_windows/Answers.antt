use Rattle.std.proofs.Common.{ℕ, ◌≡◌, ◌∙◌, ◌+◌, ◌<◌, ◌≤◌, Some, arith, length, refl, sym, slice_get, subst}
use borrow.Author.Count.{below_more}
use Rattle.std.proofs.lemmas.Option.{same_Some, slice_get_read, slice_get_within}
use Rattle.domains.specs.Span.{len_of}
use Rattle.row_plans.specs.Moved.{rows_more, states_moved, times_of}
use Rattle.row_plans.specs.Windows.{AreWindowsOf, IsWindowOf}
use Rattle.row_plans.specs.declared.row_state.RowState.{RowState}
use Rattle.row_plans.proofs.Moved.{moved_get, moved_length}
use Rattle.row_plans.proofs.Windows.{windows_pushed}
use Rattle.row_plans.proofs.row_state_repeats.list_moved_row_state_windows.Goals as goal

pub loop-stage-preserved : goal.loop-stage-preserved
loop-stage-preserved c =
    let ended = c.args.ended.now in
    let at = c.loop-stage.stage in
    let n = c.args.times in
    let item = c.index-ended-stage.result in
    let windows = c.loop-stage.windows.items in
    let there = slice_get_read ended (length ended) at item refl c.loop-stage-test.true c.index-ended-stage.is in
    record {
      len = omega (arith, c.loop-stage.invariant.len, c.in_ok-push-in-Some.ensures.len, c.loop-stage.windows.ok.0, c.push.new.self.ok.0);
      moved = λ states d moved.
          let has = moved.after at item there in
          let all = states_moved (times_of n d) (states_moved d states) in
          let own = subst (λ k. slice_get all k ≡ Some (rows_more (times_of n d at) has.0)) (sym c.loop-stage.invariant.len)
          (moved_get (times_of n d) (states_moved d states) at has.0 has.1) in
          subst (AreWindowsOf all) (sym c.in_ok-push-in-Some.ensures.items)
          (windows_pushed all windows (rows_more (times_of n d at) has.0) c.in-Some.moved (c.loop-stage.invariant.moved states d moved) own
          (c.in-Some.ensures.windows states d has.0 moved has.2));
      left = λ states d moved.
          let has = moved.after at item there in
          let P : ℕ → Type 0 = λ g. (s : RowState) → slice_get (states_moved d states) g ≡ Some s → 0 < times_of n d g
          → s.next + times_of n d g ≤ len_of s.area.rows in
          let here : P at = λ s own some.
          c.in-Some.ensures.left states d s moved (subst (λ t. IsWindowOf t item) (same_Some has.0 s (sym has.1 ∙ own)) has.2) some in
          below_more P at (c.loop-stage.invariant.left states d moved) here;
    }

pub returns-clause-left : goal.returns-clause-left
returns-clause-left c = λ states d moved len. record {
  left = λ g s own some.
      let within = slice_get_within (states_moved d states) g s own in
      let same = moved_length d states in
      c.loop-stage.invariant.left states d moved g (omega (arith, within, same, len, c.loop-stage-test.false)) s own some;
}
