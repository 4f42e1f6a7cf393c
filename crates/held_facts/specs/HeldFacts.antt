-- What is held of a key: one fact, that has the kind and the count of its tile, or has not. And states in which all facts are
-- true.
use Rattle.std.specs.Prelude.{◌≡◌, ℤ, true, Option, Some, None, List, [], ◌∷◌}
use Rattle.catalog.specs.Entries.{Entry}
use Rattle.fact_audit.specs.Shapes.{FitsJob}
use Rattle.fact_audit.specs.TrueFacts.{IsTrueFact}
use Rattle.identity.specs.declared.key.Key.{Key}
use Rattle.job.specs.Pipeline.{Pipeline}
use Rattle.tile_fact.specs.declared.body.Body.{Body}
use Rattle.tile_fact.specs.declared.body.Body.TheVariants.{Tile, Partial}
use Rattle.tile_fact.specs.declared.fact.Fact.{Fact}
use Rattle.held_facts.specs.Facts.{FactSet, holds, facts_of}

-- one fact of the key is held, and P holds of it
pub record HasOneFact (s : FactSet) (key : Key) (P : Fact → Type 0) : Type 0 where
  pub fact : Fact
  pub alone : facts_of s key ≡ fact ∷ []
  pub is : P fact

-- and it has the kind and the count of its tile
abbrev pub IsReady : FactSet → Pipeline → Key → Type 0
IsReady s job key = HasOneFact s key (λ fact. FitsJob fact job)

-- or another kind or count
abbrev pub IsMisshapen : FactSet → Pipeline → Key → Type 0
IsMisshapen s job key = HasOneFact s key (λ fact. ¬ FitsJob fact job)

-- the samples of a tile
abbrev pub samples_in : Body → Option (List ℤ)
samples_in (Tile samples) = Some samples
samples_in (Partial bins) = None

-- each held fact is true
abbrev pub HoldsTrueFacts : List Entry → FactSet → Type 0
HoldsTrueFacts catalog s = (fact : Fact) → holds s fact ≡ true → IsTrueFact catalog fact
