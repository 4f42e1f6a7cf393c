-- The state of a node: facts, and the identities of retired jobs, of which it has no fact.
use Rattle.std.specs.FinMap as map
use Rattle.std.specs.Prelude.{◌≡◌, ◌⊎◌, Bool, true, false, not}
use Rattle.identity.specs.declared.job_ids.JobId.{JobId}
use Rattle.identity.specs.Keys.{ids_in}
use Rattle.tile_fact.specs.declared.fact.Fact.{Fact}
use Rattle.fact_store.specs.Facts as sets
use Rattle.fact_store.specs.Facts.{FactSet}
use Rattle.states.specs.IdSets.{IdSet, has, no_ids, with_ids, union}

pub record State : Type 0 where
  pub facts : FactSet
  pub retired : IdSet

abbrev pub holds : State → Fact → Bool
holds s f = sets.holds s.facts f

abbrev pub retires : State → JobId → Bool
retires s i = has s.retired i

-- whether the fact's job is among the retired ones
abbrev pub is_of : IdSet → Fact → Bool
is_of ids f = has ids (ids_in f.key)

-- the facts whose job is not among these
unfoldable pub without : FactSet → IdSet → FactSet
without s ids = map.retain_keys s (λ f. not (is_of ids f))

abbrev pub nothing : State
nothing = record { facts = sets.nothing; retired = no_ids }

abbrev pub of_fact : Fact → State
of_fact f = record { facts = sets.with_fact sets.nothing f; retired = no_ids }

abbrev pub of_retirement : JobId → State
of_retirement i = record { facts = sets.nothing; retired = with_ids no_ids i }

-- both unions, but for the facts of retired jobs
abbrev pub join : State → State → State
join s t =
    let retired : IdSet = union s.retired t.retired in record { facts = without (sets.join s.facts t.facts) retired; retired = retired }

-- no fact is of a retired job
abbrev pub IsState : State → Type 0
IsState s = (f : Fact) → holds s f ≡ true → retires s (ids_in f.key) ≡ false

-- t has all that s has, but for facts of jobs that are retired in t
pub record IsBelow (s t : State) : Type 0 where
  pub retired : (i : JobId) → retires s i ≡ true → retires t i ≡ true
  pub facts : (f : Fact) → holds s f ≡ true → (holds t f ≡ true) ⊎ (retires t (ids_in f.key) ≡ true)
