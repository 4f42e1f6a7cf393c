-- Sets of identities and their lists.
use Rattle.std.specs.Coded.{Coded, code_by, coded×, coded_list, coded_ℕ}
use base.Stored.{coded_unit}
use Rattle.std.specs.FinMap as map
use Rattle.std.specs.Prelude.{ℕ, List, filter, not, refl}
use Rattle.identity.specs.declared.job_ids.JobId.{JobId}
use Rattle.states.specs.IdSets.{IdSet, has, ids_in_set, no_ids, with_all}

-- the set of these identities
abbrev pub id_set : List JobId → IdSet
id_set ids = with_all no_ids ids

-- the identities of the second set that the first lacks, rising
unfoldable pub ids_lacked : IdSet → IdSet → List JobId
ids_lacked old new = filter (λ ids. not (has old ids)) (ids_in_set new)

-- ---- sets as values that have a code, as each model's value has

abbrev coded_ids : Coded JobId
coded_ids =
    code_by (List ℕ × List ℕ) (coded× (coded_list coded_ℕ) (coded_list coded_ℕ)) (λ i. (i.program, i.input))
    (λ p. record { program = p.0; input = p.1 }) (λ _. refl)

abbrev pub coded_id_set : Coded IdSet
coded_id_set = map.code coded_ids coded_unit
