-- The state of a node: the facts that it holds, true or not, and the identities of the jobs that it knows to be retired. It holds
-- no fact of a retired job.
use Rattle.std.specs.Coded.{Coded, code_by, coded×}
use Rattle.std.specs.Prelude.{◌+◌, ℕ, List, length, refl}
use Rattle.identity.specs.declared.job_ids.JobId.{JobId}
use Rattle.identity.specs.declared.key.Key.{Key}
use Rattle.tile_fact.specs.declared.fact.Fact.{Fact}
use Rattle.fact_store.specs.Facts as sets
use Rattle.fact_store.specs.Facts.{FactSet, coded_set}
use Rattle.held_facts.specs.Facts as facts
use Rattle.id_lists.specs.IdLists.{coded_id_set, ids_lacked}
use Rattle.states.specs.IdSets.{IdSet, ids_in_set}
pub use Rattle.states.specs.States.{State, IsBelow, IsState, holds, join, nothing, of_fact, of_retirement, retires}

-- ---- what is added

-- the state with one more fact, unless the fact's job is retired
abbrev pub with_fact : State → Fact → State
with_fact s f = join s (of_fact f)

-- the state with one more retired job, and without the facts of that job
abbrev pub with_retired : State → JobId → State
with_retired s ids = join s (of_retirement ids)

-- ---- what it has

-- the facts, rising
abbrev pub facts_in : State → List Fact
facts_in s = sets.facts_in s.facts

abbrev pub facts_of : State → Key → List Fact
facts_of s key = sets.facts_of s.facts key

-- the identities of the retired jobs, rising
abbrev pub retired_in : State → List JobId
retired_in s = ids_in_set s.retired

-- the held facts of these keys, and all retired jobs
abbrev pub lent : State → List Key → State
lent s keys = record { facts = facts.lent s.facts keys; retired = s.retired }

-- ---- what another state adds

-- how many facts and retirements of the second state the first lacks
abbrev pub count_lacked : State → State → ℕ
count_lacked old new = length (sets.lacked old.facts new.facts) + length (ids_lacked old.retired new.retired)

-- ---- states as values that have a code, as each model's value has

abbrev pub coded_state : Coded State
coded_state =
    code_by (FactSet × IdSet) (coded× coded_set coded_id_set) (λ s. (s.facts, s.retired)) (λ p. record { facts = p.0; retired = p.1 })
    (λ _. refl)
