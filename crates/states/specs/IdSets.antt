-- Finite sets of the identities of jobs. A set is represented by its identities in their order, each once. So sets of the same
-- identities are equal.
use Rattle.std.specs.FinMap as map
use Rattle.std.specs.Prelude.{Bool, List, [], ◌∷◌}
use Rattle.identity.specs.declared.job_ids.JobId.{JobId}
use Rattle.identity.specs.Keys.{ids_cmp}

abbrev pub IdSet : Type 0
IdSet = map.FinMap ids_cmp (Unit {0})

unfoldable pub no_ids : IdSet
no_ids = map.empty

unfoldable pub has : IdSet → JobId → Bool
has s i = map.contains_key s i

unfoldable pub with_ids : IdSet → JobId → IdSet
with_ids s i = map.insert s i tt

-- the identities in the set, rising
unfoldable pub ids_in_set : IdSet → List JobId
ids_in_set s = map.keys s

-- the set with these identities added
unfoldable pub with_all : IdSet → List JobId → IdSet
with_all s [] = s
with_all s (i ∷ is) = with_ids (with_all s is) i

-- the identities that are in the one or in the other
unfoldable pub union : IdSet → IdSet → IdSet
union s t = with_all s (ids_in_set t)
