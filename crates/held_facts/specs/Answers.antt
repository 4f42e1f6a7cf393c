-- What is answered of held facts.
use Rattle.std.specs.declared.cmp.Ordering.TheVariants.{Less}
use Rattle.std.specs.List.{Contains}
use Rattle.std.specs.Prelude.{◌≡◌, ◌≢◌, ℕ, zero, suc, if◌then◌else◌, List, [], length}
use Rattle.identity.specs.declared.key.Key.{Key}
use Rattle.identity.specs.Keys.{key_cmp}
use Rattle.tile_fact.specs.declared.fact.Fact.{Fact}
use Rattle.held_facts.specs.declared.answers.Known.{Known}
use Rattle.held_facts.specs.declared.answers.Known.TheVariants.{Nothing, One, Disputed}
use Rattle.held_facts.specs.declared.answers.LendFault.{LendFault}
use Rattle.held_facts.specs.declared.answers.LendFault.TheVariants.{NotHeld, Memory}
use Rattle.held_facts.specs.declared.answers.Taken.{Taken}
use Rattle.held_facts.specs.declared.answers.Taken.TheVariants.{New, Already}
use Rattle.held_facts.specs.Facts.{FactSet, holds, facts_of}

-- whether a fact that is taken was new
abbrev pub taken_of : FactSet → Fact → Taken
taken_of s f = if holds s f then Already else New

abbrev pub counted : ℕ → Known
counted zero = Nothing
counted (suc zero) = One
counted (suc (suc more)) = Disputed

-- none, one or several facts of the key are held
abbrev pub known_of : FactSet → Key → Known
known_of s key = counted (length (facts_of s key))

-- ---- lending

abbrev pub IsNotHeld : FactSet → Key → Type 0
IsNotHeld s key = facts_of s key ≡ []

-- some fact of each requested key is held
abbrev pub AreHeld : FactSet → List Key → Type 0
AreHeld s keys = (key : Key) → Contains keys key → ¬ IsNotHeld s key

-- the least requested key that is not held
pub record IsLeastNotHeld (s : FactSet) (keys : List Key) (key : Key) : Type 0 where
  pub asked : Contains keys key
  pub not_held : IsNotHeld s key
  pub least : (other : Key) → Contains keys other → IsNotHeld s other → key_cmp other key ≢ Less

-- memory is refused only where all keys are held
abbrev pub IsLendFault : FactSet → List Key → LendFault → Type 0
IsLendFault s keys (NotHeld key) = IsLeastNotHeld s keys key
IsLendFault s keys Memory = AreHeld s keys

-- ---- the faults' numbers

abbrev pub number_of : LendFault → ℕ
number_of (NotHeld key) = 1
number_of Memory = 2
