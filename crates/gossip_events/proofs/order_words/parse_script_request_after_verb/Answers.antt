use Rattle.std.proofs.Common.{arith}
use Rattle.std.proofs.lemmas.Grind.{common_steps}
use Rattle.gossip_events.proofs.OrderLaws.{no_order}
use Rattle.gossip_events.proofs.order_words.parse_script_request_after_verb.Goals as goal

pub returns-in-None : goal.returns-in-None
returns-in-None c =
    record {
      some = tt;
      none = λ same order.
          no_order c.args.verb _ (λ e. grind (arith, common_steps, c.in-Deliver.is)) (λ e. grind (arith, common_steps, c.in-Deliver.is))
          (λ e. grind (arith, common_steps, c.in-Deliver.is)) c.in-None.ensures.none order;
    }
