use Rattle.std.proofs.Common.{◌∙◌, refl}
use Rattle.farm_turns.specs.Shifts.{no_turn}
use Rattle.farm_turns.proofs.Progress.{at_one_more}
use Rattle.farm_turns.proofs.shift.WorkerShift.run.Goals as goal

pub loop-before-init : goal.loop-before-init
loop-before-init g c = (refl, refl, λ s at. record { after = s; through = no_turn; at = at })

pub loop-before-preserved : goal.loop-before-preserved
loop-before-preserved g c =
    let inv = c.loop-before.invariant in (
      c.in_ok-run_turn.ensures.rules ∙ inv.0,
      inv.1,
      λ s at.
          let h = inv.2 s at in
          at_one_more g.P.WorkerPlace.has_log c.loop-before.self.rules c.args.self.now.rules s c.loop-before.before h.after inv.0 h.through
          (c.in_ok-run_turn.ensures.turned h.after h.at),
    )
