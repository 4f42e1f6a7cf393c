use Rattle.std.proofs.Common.{refl}
use Rattle.catalog.specs.Entries.{ids_of}
use Rattle.gossip_events.proofs.naming.resolve_script_tile_name_to_key.Goals as goal

pub returns-in_err-ids-clause-none : goal.returns-in_err-ids-clause-none
returns-in_err-ids-clause-none c =
    rw (c.from_residual.ensures) (λ key is. c.in_err-ids.ensures.none (ids_of is.job) (is.job, is.there, refl))
