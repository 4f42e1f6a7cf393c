-- What a run of all events from nodes that hold nothing comes to.
use Rattle.std.proofs.Common.{◌≡◌, ◌≤◌, ◌∙◌, ◌++◌, ℕ, List, [], ap, ap₂, arith, length, subst, take, zero-add}
use Rattle.std.specs.List.{flat_map}
use Rattle.std.specs.Prelude.{reverse}
use Rattle.std.proofs.lemmas.List.{append-nil, take_all}
use Rattle.gossip_core.specs.Histories.{Leads}
use Rattle.gossip_core.specs.Steps.{WorldWork}
use Rattle.gossip_events.specs.declared.event.Event.{Event}
use Rattle.worlds.specs.Worlds.{RunsOn, WorldView}
use Rattle.world_commands.specs.WorldLines.{count_line, node_lines}
use Rattle.world_commands.specs.WorldSayings.{IsOutcome}
use Rattle.world_commands.specs.declared.contents.WorldNodeReport.{WorldNodeReport}
use Rattle.world_commands.specs.inside.Outcomes.{held_line}

-- all events were gone through
all_gone : (events : List Event) (done : ℕ) → done ≡ length events → take done events ≡ events
all_gone events done all = let long : length events ≤ done = omega (arith, all) in take_all done events long

pub run_outcome : (u : WorldWork) (size : ℕ) (events : List Event) (w : WorldView) (done refused : ℕ) (nodes : List WorldNodeReport) → w.work ≡ u
    → RunsOn w size [] [] (take done events) refused → done ≡ length events → flat_map held_line nodes ≡ node_lines size w.network
    → IsOutcome u size events (count_line done refused ++ flat_map held_line nodes)
run_outcome u size events w done refused nodes same ran all lines =
    let gone = all_gone events done all in
    record {
      accepted = ran.later;
      world = w.network;
      leads =
          subst (λ (v : WorldWork). Leads v size (reverse events) ran.later w.network) same
          (subst (λ (h : List Event). Leads w.work size h ran.later w.network) (append-nil (reverse (take done events)) ∙ ap reverse gone)
          ran.leads);
      refused = refused;
      count = ran.count ∙ zero-add (length (take done events)) ∙ ap length gone;
      says = ap₂ (λ n ls. count_line n refused ++ ls) all lines;
    }
