-- What nodes hold, and the lines of it.
use Rattle.std.proofs.Common.{◌≡◌, ◌++◌, ◌∙◌, ◌+◌, ℕ, Option, Some, None, List, [], ◌∷◌, ap, ap₂, option_map, slice_get, sym}
use Rattle.std.specs.List.{flat_map}
use Rattle.std.specs.Prelude.{unwrap_or}
use Rattle.std.proofs.lemmas.List.{flat_map_more}
use Rattle.std.proofs.lemmas.Option.{same_Some}
use Rattle.gossip_core.specs.Networks.{Network, NodeStates}
use Rattle.gossip_core.specs.Steps.{held, no_states}
use Rattle.tile_boxes.proofs.Lists.{flat_map_range_more}
use Rattle.node_state.specs.States.{State, facts_in, retired_in}
use Rattle.world_commands.specs.WorldLines.{contents_line, node_line, node_lines}
use Rattle.world_commands.specs.declared.contents.WorldNodeReport.{WorldNodeReport}
use Rattle.world_commands.specs.inside.Outcomes.{held_line}

-- what a node holds that is there
pub held_there : (w : Network) (n : ℕ) (s : State) → Some s ≡ option_map (λ (q : NodeStates). q.held) (slice_get w.nodes n) → s ≡ held w n
held_there w n s is =
    elim (slice_get w.nodes n) as (λ (o : Option NodeStates).
    Some s ≡ option_map (λ (q : NodeStates). q.held) o → s ≡ (unwrap_or o no_states).held) [
      | None ↦ λ e. cc
      | Some q ↦ λ e. same_Some s q.held e
    ] is

-- the line of one node more
pub node_more : (w : Network) (n : ℕ) (before now : List WorldNodeReport) (next : WorldNodeReport) → flat_map held_line before ≡ node_lines n w
    → next.node ≡ n → next.retired.items ≡ retired_in (held w n) → next.facts.items ≡ facts_in (held w n) → now ≡ before ++ next ∷ [] → flat_map held_line now ≡ node_lines (n + 1) w
node_more w n before now next was node retired facts is =
    ap (flat_map held_line) is ∙ sym (flat_map_more held_line [] before next)
    ∙ ap₂ (λ xs ys. xs ++ ys) was (λ i. contents_line (node i) (retired i) (facts i))
    ∙ sym (flat_map_range_more (λ k. node_line k (held w k)) n)
