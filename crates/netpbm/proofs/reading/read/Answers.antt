-- What callers see of what reading gives.
use Rattle.std.proofs.Common.{arith}
use Rattle.netpbm.proofs.ReadLaws.{is_found, is_only, is_fault}
use Rattle.netpbm.proofs.reading.read.Goals as goal

pub returns-clause-found : goal.returns-clause-found
returns-clause-found c = is_found c.args.bytes.now c.read_picture.result (λ i. omega (arith, c.type_inv.bytes i)) c.read_picture.ensures

pub returns-clause-only : goal.returns-clause-only
returns-clause-only c = λ p h. is_only c.args.bytes.now c.read_picture.result p c.read_picture.ensures h

pub returns-clause-fault : goal.returns-clause-fault
returns-clause-fault c = is_fault c.args.bytes.now c.read_picture.result (λ i. omega (arith, c.type_inv.bytes i)) c.read_picture.ensures
