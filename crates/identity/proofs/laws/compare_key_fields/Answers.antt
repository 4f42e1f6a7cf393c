use Rattle.identity.proofs.KeyLaws.{equal_keys, key_order}
use Rattle.identity.proofs.laws.compare_key_fields.Goals as goal

pub returns-clause-one : goal.returns-clause-one
returns-clause-one c = rw c.cmp.ensures (equal_keys c.args.a.now c.args.b.now)

pub returns-clause-total : goal.returns-clause-total
returns-clause-total c = key_order
