-- What a fact is: a key and a body.
use Rattle.identity.specs.declared.key.Key.{Key}
use Rattle.tile_fact.specs.declared.body.Body.{Body}

pub record Keyed : Type 0 where
  pub key : Key
  pub body : Body
