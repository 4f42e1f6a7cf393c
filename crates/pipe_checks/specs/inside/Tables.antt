-- Tables of names: only contracts of private functions cite this.
use Rattle.std.specs.Prelude.{ℕ, ◌<◌, ◌≡◌, ◌==◌, min, Bool, false, Option, Some, None, is_some, List, [], ◌∷◌, if◌then◌else◌}
use Rattle.std.specs.Str.{bytes_eq}
use Rattle.pipe_checks.specs.declared.symbol.Symbol.{Symbol}
use Rattle.pipe_checks.specs.declared.table.DeclaredNames.{DeclaredNames}
use Rattle.pipe_checks.specs.Names.{number_of}
use Rattle.pipe_checks.specs.Checking.{DeclaresAgain}

-- the list with a declaration instead of the first of its name, or else at the end
abbrev pub put : List Symbol → Symbol → List Symbol
put [] s = s ∷ []
put (d ∷ ds) s = if bytes_eq d.name s.name then s ∷ ds else d ∷ put ds s

abbrev pub earlier : Option ℕ → ℕ → ℕ
earlier None n = n
earlier (Some m) n = min m n

abbrev pub is_first_redeclaring_item : Option ℕ → ℕ → Bool
is_first_redeclaring_item None n = false
is_first_redeclaring_item (Some m) n = m == n

-- the first item that declares a name that was declared before, or none does
abbrev pub IsFirstAgain : List Symbol → Option ℕ → Type 0
IsFirstAgain names None = (n : ℕ) → ¬ (DeclaresAgain names n)
IsFirstAgain names (Some n) = DeclaresAgain names n × ((k : ℕ) → k < n → ¬ (DeclaresAgain names k))

-- the table has the declared names; where none is declared again, it is their list
pub record IsTableOf (names : List Symbol) (d : DeclaredNames) : Type 0 where
  pub known : (x : List ℕ) → is_some (number_of d.table x) ≡ is_some (number_of names x)
  pub whole : d.again ≡ None → d.table ≡ names
  pub first : IsFirstAgain names d.again
