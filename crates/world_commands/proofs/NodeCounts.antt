-- No event adds a node or takes one away.
use Rattle.std.proofs.Common.{◌≡◌, ◌∙◌, ℕ, inl, inr, List, [], ◌∷◌, ap, length}
use Rattle.std.proofs.lemmas.List.{length-replicate}
use Rattle.gossip_core.specs.Histories.{Goes, Leads}
use Rattle.gossip_core.specs.Networks.{Network}
use Rattle.gossip_core.specs.Steps.{Does, WorldWork, no_states}
use Rattle.gossip_core.proofs.StateLaws.{length-slice_set_nodes}
use Rattle.gossip_events.specs.declared.event.Event.{Event}
use Rattle.gossip_events.specs.declared.event.Event.TheVariants.{Make, Retire, Send, Deliver, Merge, Keep, Restart}

abbrev count : Network → ℕ
count w = length w.nodes

does_keep : (u : WorldWork) (w new : Network) (e : Event) → Does u w e new → count new ≡ count w
does_keep u w new (Make n key) (fact, makes, is) = ap count is
does_keep u w new (Retire n ids) is = ap count is
does_keep u w new (Send n m keys) (held, is) = ap count is
does_keep u w new (Deliver n k) (m, there, to, is) = ap count is ∙ length-slice_set_nodes w.nodes n _
does_keep u w new (Merge a b) is = ap count is ∙ length-slice_set_nodes w.nodes a _
does_keep u w new (Keep n) is = ap count is ∙ length-slice_set_nodes w.nodes n _
does_keep u w new (Restart n) is = ap count is ∙ length-slice_set_nodes w.nodes n _

goes_keep : (u : WorldWork) (old w : Network) (e : Event) (earlier accepted : List Event) → Goes u old e w earlier accepted → count w ≡ count old
goes_keep u old w e earlier accepted (inl accepts) = does_keep u old w e accepts.0.1
goes_keep u old w e earlier accepted (inr refuses) = ap count refuses.1

-- whatever leads to a world, it has as many nodes as at first
pub leads_nodes : (u : WorldWork) (size : ℕ) (h accepted : List Event) (w : Network) → Leads u size h accepted w → length w.nodes ≡ size
leads_nodes u size [] accepted w (none, is) = ap count is ∙ length-replicate size no_states
leads_nodes u size (e ∷ h) accepted w (old, earlier, leads, goes) =
    goes_keep u old w e earlier accepted goes ∙ leads_nodes u size h earlier old leads
