-- What a state has, in the order and the parts of a fact file.
use Rattle.std.specs.Prelude.{◌≡◌, Bool, true, false, List, [], ◌∷◌, All, Some, T, refl, map}
use Rattle.std.proofs.Common.{sym, ◌∙◌}
use Rattle.std.specs.FinMap as map_
use Rattle.std.specs.FinMap.{is_sorted}
use Rattle.std.specs.FinMap.Entries.{below_all}
use Rattle.std.specs.Ordering.{is_lt}
use Rattle.identity.specs.Keys.{ids_cmp, ids_in}
use Rattle.identity.specs.declared.job_ids.JobId.{JobId}
use Rattle.tile_fact.specs.FactFile.{is_retired}
use Rattle.tile_fact.specs.Order.{IdsRise, RisesBehind}
use Rattle.fact_store.proofs.KeyLaws.{in_facts}
use Rattle.fact_store.proofs.SetLaws.{less, split}
use Rattle.overlap_tiles.proofs.Lists.{All-from_contains}
use Rattle.states.proofs.IdLaws.{has-ids_in_set}
use Rattle.states.specs.IdSets.{IdSet, ids_in_set}
use Rattle.states.specs.States.{IsState, State}
use Rattle.node_state.specs.States.{facts_in, retired_in}

-- ---- identities rise
abbrev firsts : List (JobId × Unit {0}) → List JobId
firsts es = map (λ (e : JobId × Unit {0}). e.0) es

rise_behind : (x : JobId) (es : List (JobId × Unit {0})) → below_all ids_cmp x es ≡ true → is_sorted ids_cmp es ≡ true
    → RisesBehind ids_cmp (Some x) (firsts es)
rise_behind x [] low h = tt
rise_behind x (e ∷ es) low h =
    let parts = split (below_all ids_cmp e.0 es) (is_sorted ids_cmp es) h in
    (less (ids_cmp x e.0) ((split (is_lt (ids_cmp x e.0)) (below_all ids_cmp x es) low).0), rise_behind e.0 es parts.0 parts.1)

rise : (es : List (JobId × Unit {0})) → is_sorted ids_cmp es ≡ true → IdsRise (firsts es)
rise [] h = tt
rise (e ∷ es) h = let parts = split (below_all ids_cmp e.0 es) (is_sorted ids_cmp es) h in (tt, rise_behind e.0 es parts.0 parts.1)

shown : (b : Bool) → T b → b ≡ true
shown true t = refl
shown false t = absurd t

pub ids_rise : (s : IdSet) → IdsRise (ids_in_set s)
unfolding ids_in_set
ids_rise s = rise (map_.entries s) (shown (is_sorted ids_cmp (map_.entries s)) (map_.entries_sorted s))

-- ---- no fact is of a retired job
pub facts_apart : (s : State) → IsState s → All (λ fact. is_retired (retired_in s) fact ≡ false) (facts_in s)
facts_apart s is =
    All-from_contains (λ fact. is_retired (retired_in s) fact ≡ false) (facts_in s)
    (λ f there. sym (has-ids_in_set s.retired (ids_in f.key)) ∙ is f ((in_facts s.facts f).0 there))
