use Rattle.std.proofs.Common.{◌≡◌, ◌+◌, ℕ, List, sym, ap, ◌∙◌, subst, arith, take, length, ◌++◌, ◌∷◌, []}
use Rattle.gossip_core.specs.Finishing.{makings}
use Rattle.gossip_events.specs.declared.event.Event.{Event}
use Rattle.gossip_events.specs.declared.event.Event.TheVariants.{Make, Deliver}
use Rattle.worlds.proofs.RunLaws.{added_one, makings_taken}
use Rattle.worlds.proofs.finishing.list_make_and_deliver_events_to_finish.Goals as goal

pub loop-key-preserved : goal.loop-key-preserved
loop-key-preserved c =
    let before = c.loop-key.invariant in
    record {
      message =
          let m = before.message in
          let one = added_one c.loop-key.message _ c.in_ok-message.message c.checked_add.result c.checked_add.ensures
          c.in_ok-message.ensures.value in
          omega (arith, m, one);
      events =
          c.in_ok-push-2.ensures.items
          ∙ ap (λ (es : List Event). es ++ Deliver c.args.n c.loop-key.message ∷ [])
          (c.in_ok-push.ensures.items ∙ ap (λ (es : List Event). es ++ Make c.args.n c.key-item.result ∷ []) before.events)
          ∙ makings_taken c.args.n c.args.sent c.args.keys.now c.loop-key.key-index c.key-item.result c.loop-key.message before.message
          c.loop-key-test.true c.key-item.is;
    }
