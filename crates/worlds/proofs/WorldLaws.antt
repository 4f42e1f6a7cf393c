-- What holds of a world and of its nodes after an event.
use Rattle.std.proofs.Common.{ℕ, ◌≡◌, List, [], Some, Result, Ok, Err, OnOk, IfErr, length, replicate, refl, sym, ap, ◌∙◌, subst}
use Rattle.std.specs.Prelude.{slice_get, unwrap_or}
use Rattle.std.proofs.lemmas.List.{length-replicate}
use Rattle.gossip_core.proofs.Following.{leads_follows}
use Rattle.gossip_core.proofs.StateLaws.{length-slice_set_nodes}
use Rattle.gossip_core.proofs.TruthLaws.{accepted_true, worlds_true}
use Rattle.gossip_core.specs.Histories.{Leads, start}
use Rattle.gossip_core.specs.Networks.{Network, NodeStates}
use Rattle.gossip_core.specs.Steps.{Accepts, Refuses, WorldWork, held, kept, no_states}
use Rattle.gossip_core.specs.Taking.{IsTaken, IsTakenAtKeep}
use Rattle.gossip_core.specs.Truths.{AllTrue}
use Rattle.gossip_core.specs.declared.done.Done.{Done}
use Rattle.gossip_core.specs.declared.fault.StepFault.{StepFault}
use Rattle.gossip_events.specs.declared.event.Event.{Event}
use Rattle.gossip_events.specs.declared.event.Event.TheVariants.{Make, Retire, Send, Deliver, Merge, Keep, Restart}
use Rattle.held_facts.specs.HeldFacts.{HoldsTrueFacts}
use Rattle.node_state.specs.States.{State}
use Rattle.worlds.specs.Worlds.{IsPlannedWork, IsWorld, WorldView}

-- ---- the world at first and after an event

pub world_start : (u : WorldWork) → IsPlannedWork u → IsWorld u (start (length u.schedules))
world_start u good = record {
  work = good;
  nodes = sym (length-replicate (length u.schedules) no_states);
  truth = worlds_true u (length u.schedules) [] [] (start (length u.schedules)) good.apart good.jobs (refl, refl);
}

same_count : (u : WorldWork) (w new : Network) (e : Event) → Accepts u w e new → length w.nodes ≡ length new.nodes
same_count u w new (Make n key) ok = ap (λ (v : Network). length v.nodes) (sym ok.1.2)
same_count u w new (Retire n ids) ok = ap (λ (v : Network). length v.nodes) (sym ok.1)
same_count u w new (Send n m keys) ok = ap (λ (v : Network). length v.nodes) (sym ok.1.1)
same_count u w new (Deliver n k) ok = sym (ap (λ (v : Network). length v.nodes) ok.1.3 ∙ length-slice_set_nodes w.nodes n _)
same_count u w new (Merge a b) ok = sym (ap (λ (v : Network). length v.nodes) ok.1 ∙ length-slice_set_nodes w.nodes a _)
same_count u w new (Keep n) ok = sym (ap (λ (v : Network). length v.nodes) ok.1 ∙ length-slice_set_nodes w.nodes n _)
same_count u w new (Restart n) ok = sym (ap (λ (v : Network). length v.nodes) ok.1 ∙ length-slice_set_nodes w.nodes n _)

pub world_after : (u : WorldWork) (w new : Network) (e : Event) (r : Result Done StepFault) → IsWorld u w → OnOk r (Accepts u w e new)
    → IfErr r (Refuses u w e new) → IsWorld u new
world_after u w new e (Ok d) is ok err = record {
  work = is.work;
  nodes = is.nodes ∙ same_count u w new e ok;
  truth = accepted_true u w new e is.work.apart is.work.jobs is.truth ok;
}
world_after u w new e (Err fault) is ok err = subst (IsWorld u) (sym err.unchanged) is

-- ---- its nodes

module _ (v w : WorldView) (view : v ≡ w) (n : ℕ) (b q : NodeStates) (node : b ≡ q) (there : slice_get v.network.nodes n ≡ Some q) where
  held_is : held v.network n ≡ b.held
  held_is = ap (λ o. (unwrap_or o no_states).held) there ∙ ap (λ (x : NodeStates). x.held) (sym node)

  kept_is : kept v.network n ≡ b.kept
  kept_is = ap (λ o. (unwrap_or o no_states).kept) there ∙ ap (λ (x : NodeStates). x.kept) (sym node)

  pub held_true : AllTrue v.work.jobs v.network → HoldsTrueFacts w.work.jobs b.held.facts
  held_true truth = subst (λ (x : WorldView). HoldsTrueFacts x.work.jobs b.held.facts) view
      (subst (λ (s : State). HoldsTrueFacts v.work.jobs s.facts) held_is (truth.holds n))

  pub kept_true : AllTrue v.work.jobs v.network → HoldsTrueFacts w.work.jobs b.kept.facts
  kept_true truth = subst (λ (x : WorldView). HoldsTrueFacts x.work.jobs b.kept.facts) view
      (subst (λ (s : State). HoldsTrueFacts v.work.jobs s.facts) kept_is (truth.keeps n))

  pub held_taken : (size : ℕ) (h accepted : List Event) → Leads w.work size h accepted w.network
      → IsTaken w.network.messages accepted n b.held
  held_taken size h accepted leads =
      subst (IsTaken w.network.messages accepted n) (ap (λ (x : WorldView). held x.network n) (sym view) ∙ held_is)
      ((leads_follows w.work size h accepted w.network leads).holds n)

  pub kept_taken : (size : ℕ) (h accepted : List Event) → Leads w.work size h accepted w.network
      → IsTakenAtKeep w.network.messages accepted n b.kept
  kept_taken size h accepted leads =
      subst (IsTakenAtKeep w.network.messages accepted n) (ap (λ (x : WorldView). kept x.network n) (sym view) ∙ kept_is)
      ((leads_follows w.work size h accepted w.network leads).keeps n)
