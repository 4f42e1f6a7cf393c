use Rattle.overlap_tiles.proofs.KeysRise.{keys_rise}
use Rattle.overlap_tiles.proofs.NeedsAreExact.{from_needs, to_needs, needs_rise}
use Rattle.overlap_tiles.proofs.laws.tile_needs_are_exact.Goals as goal

pub returns-clause-all : goal.returns-clause-all
returns-clause-all c = λ t n good target. ((λ h. from_needs t n good h), (λ h. to_needs t n good h))

pub returns-clause-order : goal.returns-clause-order
returns-clause-order c = needs_rise

pub returns-clause-keys : goal.returns-clause-keys
returns-clause-keys c = keys_rise
