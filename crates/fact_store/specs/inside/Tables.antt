-- Tables of facts, one for each key that has any, and the sets that they represent.
use Rattle.std.specs.BTreeMap.{is_at}
use Rattle.std.specs.List.{list_all}
use Rattle.std.specs.Map.{lookup, remove_entry, set_value}
use Rattle.std.specs.Ordering.{is_lt}
use Rattle.std.specs.Prelude.{Bool, true, false, ◌&&◌, List, [], ◌∷◌, ◌++◌, Option, Some, None, filter, unwrap_or}
use Rattle.identity.specs.declared.key.Key.{Key}
use Rattle.identity.specs.Keys.{key_cmp}
use Rattle.tile_fact.specs.declared.fact.Fact.{Fact}
use Rattle.fact_store.specs.Facts.{FactSet, same_key}
use Rattle.fact_store.specs.inside.SortedLists.{rises, set_of}

-- keys, each with its table of facts
abbrev pub Tables : Type 0
Tables = List (Key × List Fact)

-- the facts of all tables, one table after another
abbrev pub all_facts : Tables → List Fact
all_facts [] = []
all_facts (e ∷ es) = e.1 ++ all_facts es

-- the set of these facts
abbrev pub set_in : Tables → FactSet
set_in es = set_of (all_facts es)

-- the table of a key, empty where there is none
abbrev pub table_at : Tables → Key → List Fact
table_at es key = unwrap_or (lookup (is_at (key_cmp key)) es) []

-- the tables of the keys above a key
abbrev pub tables_above : Key → Tables → Tables
tables_above key es = filter (λ e. is_lt (key_cmp key e.0)) es

-- whether a key is below each key of the tables
abbrev pub key_below : Key → Tables → Bool
key_below key es = list_all (λ e. is_lt (key_cmp key e.0)) es

-- whether the facts are those of a key
abbrev pub all_of : Key → List Fact → Bool
all_of key xs = list_all (λ f. same_key key f.key) xs

abbrev pub is_filled : List Fact → Bool
is_filled [] = false
is_filled (x ∷ xs) = true

-- whether these are facts of a key, at least one, that rise
abbrev pub is_table : Key → List Fact → Bool
is_table key xs = all_of key xs && (rises xs && is_filled xs)

-- whether each key is below all after it, and each has its table
abbrev pub stand : Tables → Bool
stand [] = true
stand (e ∷ es) = key_below e.0 es && (is_table e.0 e.1 && stand es)

-- the former entry of a key before a change, if it had one
abbrev pub Former : Type 0
Former = Key × Option (List Fact)

-- the tables with the former entry of a key restored
abbrev pub undo_one : Former → Tables → Tables
undo_one (key, None) es = remove_entry (is_at (key_cmp key)) es
undo_one (key, Some xs) es = set_value (is_at (key_cmp key)) es xs

-- changes, from the first on, are undone from the last on
abbrev pub undone : List Former → Tables → Tables
undone [] es = es
undone (u ∷ us) es = undo_one u (undone us es)
