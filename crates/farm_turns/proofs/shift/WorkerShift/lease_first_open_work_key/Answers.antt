use Rattle.std.proofs.Common.{◌≡◌, ◌∙◌, ◌-◌, ℕ, List, sym, ap, subst, arith, length, drop, take, suc}
use Rattle.std.proofs.lemmas.List.{take_all, length-drop}
use Rattle.farm_turns.specs.Shifts.{IsAt}
use Rattle.farm_turns.specs.Turns.{No_key, after_picking, after_passing_all}
use Rattle.farm_turns.specs.declared.rules.TurnRules.{TurnRules}
use Rattle.farm_turns.proofs.Progress.{at_passed, cut_at}
use Rattle.identity.specs.declared.key.Key.{Key}
use Rattle.farm_turns.proofs.shift.WorkerShift.lease_first_open_work_key.Goals as goal

-- the keys behind a place, as code reads them
behind : (keys : List Key) (n : ℕ) → take (length keys - n) (drop n keys) ≡ drop n keys
behind keys n = take_all (length keys - n) (drop n keys) (rw (length-drop n keys) (omega arith))

pub returns-in-Some-clause-some : goal.returns-in-Some-clause-some
returns-in-Some-clause-some g c s at =
    let rules = c.args.self.now.rules in
    let keys = drop c.args.self.now.counts.settled rules.keys.now in
    let whole = behind rules.keys.now c.args.self.now.counts.settled in
    let i = c.loop-key.key-index in
    let key = c.key-item.result in
    let h = c.loop-key.invariant.2 s at in
    let some = rw c.in-Some.is at c.in_ok-plan.ensures.some in (
      h.0,
      drop (suc i) keys,
      ap (λ n. drop n rules.keys.now) (sym at.settled) ∙ cut_at keys _ i key (rw whole at c.loop-key-test.true) (rw whole at c.key-item.is) h.1,
      subst (λ (r : TurnRules). IsAt g.P.WorkerPlace.has_log c.plan_and_lease_work_key_if_open.new.self.place c.plan_and_lease_work_key_if_open.new.self.counts
          (after_picking r c.args.turn (after_passing_all rules c.args.turn s h.0) key (g.P.WorkerPlace.needs_of c.in-Some.plan))) c.loop-key.invariant.0 (some _ h.2),
    )

pub loop-key-preserved : goal.loop-key-preserved
loop-key-preserved g c =
    let rules = c.args.self.now.rules in
    let keys = drop c.args.self.now.counts.settled rules.keys.now in
    let whole = behind rules.keys.now c.args.self.now.counts.settled in
    let inv = c.loop-key.invariant in
    let none = rw c.in_default.is at c.in_ok-plan.ensures.none in (
      c.in_ok-plan.ensures.rules ∙ inv.0,
      omega (arith, inv.1, c.in_ok-plan.ensures.settled),
      λ s at.
          let h = inv.2 s at in
          let why = none _ h.2 in
          at_passed g.P.WorkerPlace.has_log c.loop-key.self.rules rules c.args.turn s keys c.loop-key.key-index h.0 c.key-item.result why.0
          inv.0 (rw whole at c.loop-key-test.true) (rw whole at c.key-item.is) h.1 why.1,
    )

pub returns-clause-none : goal.returns-clause-none
returns-clause-none g c s at =
    let rules = c.args.self.now.rules in
    let keys = drop c.args.self.now.counts.settled rules.keys.now in
    let whole = behind rules.keys.now c.args.self.now.counts.settled in
    let h = c.loop-key.invariant.2 s at in (
      No_key h.0,
      ap (λ n. drop n rules.keys.now) (sym at.settled) ∙ sym (take_all c.loop-key.key-index keys (rw whole at c.loop-key-test.false)) ∙ sym h.1,
      h.2,
    )
