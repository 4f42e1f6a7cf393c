-- A search for the least key.
use Rattle.std.specs.Ordering.{is_lt}
use Rattle.std.specs.Prelude.{Bool, true, Option, None, Some}
use Rattle.identity.specs.declared.key.Key.{Key}
use Rattle.identity.specs.Keys.{key_cmp}

-- whether a key is below the one found before, if there is one
abbrev pub is_first : Key → Option Key → Bool
is_first key None = true
is_first key (Some found) = is_lt (key_cmp key found)
