-- What `world` reports in bytes: how many events it processed, how many of these were refused, and what each node holds.
use Rattle.std.specs.Prelude.{ℕ, List, [], ◌∷◌, ◌++◌, codes}
use Rattle.std.specs.Fmt.{decimal}
use Rattle.std.specs.List.{flat_map, range_with_len}
use Rattle.fact_lines.specs.Written.{written}
use Rattle.gossip_core.specs.Networks.{Network}
use Rattle.gossip_core.specs.Steps.{held}
use Rattle.identity.specs.declared.job_ids.JobId.{JobId}
use Rattle.node_state.specs.States.{State, facts_in, retired_in}
use Rattle.tile_fact.specs.declared.fact.Fact.{Fact}

-- `done D refused R` and LF
abbrev pub count_line : ℕ → ℕ → List ℕ
count_line done refused = codes "done " ++ decimal done ++ codes " refused " ++ decimal refused ++ 10 ∷ []

-- `node N` and a blank
abbrev pub node_head : ℕ → List ℕ
node_head n = codes "node " ++ decimal n ++ 32 ∷ []

-- and the line of the file of these retired jobs and facts
abbrev pub contents_line : ℕ → List JobId → List Fact → List ℕ
contents_line n retired facts = node_head n ++ written retired facts

-- which are those of the node's state
abbrev pub node_line : ℕ → State → List ℕ
node_line n s = contents_line n (retired_in s) (facts_in s)

-- a line for each of so many nodes
abbrev pub node_lines : ℕ → Network → List ℕ
node_lines size w = flat_map (λ n. node_line n (held w n)) (range_with_len 0 size)

abbrev pub world_lines : ℕ → ℕ → ℕ → Network → List ℕ
world_lines done refused size w = count_line done refused ++ node_lines size w
