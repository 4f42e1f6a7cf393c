-- What is lent of a node whose facts are true.
use Rattle.std.specs.List.{Contains}
use Rattle.std.specs.Prelude.{◌≡◌, List}
use Rattle.catalog.specs.Entries.{Entry}
use Rattle.fact_audit.specs.TrueFacts.{IsTrueFact}
use Rattle.identity.specs.declared.key.Key.{Key}
use Rattle.tile_fact.specs.Order.{Rises}
use Rattle.tile_fact.specs.declared.fact.Fact.{Fact}

-- the facts are the one true fact of each key, rising
pub record AreTrueFactsOf (catalog : List Entry) (keys : List Key) (facts : List Fact) : Type 0 where
  pub is_true : (f : Fact) → Contains facts f → IsTrueFact catalog f
  pub asked : (f : Fact) → Contains facts f → Contains keys f.key
  pub each : (key : Key) → Contains keys key → (f : Fact) × Contains facts f × (f.key ≡ key)
  pub one : (f g : Fact) → Contains facts f → Contains facts g → f.key ≡ g.key → f ≡ g
  pub rise : Rises facts
