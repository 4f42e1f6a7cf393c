-- What a node holds: a finite set of facts, true or not. Every statement about held facts uses the definitions of this file.
use Rattle.std.specs.FinMap as map
use Rattle.std.specs.List.{list_any}
use Rattle.std.specs.Prelude.{Bool, List}
use Rattle.identity.specs.declared.key.Key.{Key}
pub use Rattle.fact_store.specs.Facts.{FactSet, nothing, holds, facts_in, with_fact, join, IsSubset, lacked, same_key, facts_of, least, least_above, names_one, without}

abbrev pub is_among : List Key → Key → Bool
is_among keys key = list_any (same_key key) keys

-- the held facts whose key is one of these
unfoldable pub lent : FactSet → List Key → FactSet
lent s keys = map.retain_keys s (λ f. is_among keys f.key)
