use Rattle.std.proofs.Common.{arith}
use Rattle.std.proofs.lemmas.Int.{ints}
use Rattle.domains.proofs.area.Area.holds.Goals as goal

pub returns-then-holds : goal.returns-then-holds
returns-then-holds c = (
  (λ t. let row = c.holds.ensures.0 c.if-holds.true in
      let col = c.holds-then-holds.ensures.0 t in
      let up = row.0 in
      let down = row.1 in
      let left = col.0 in let right = col.1 in ((omega (arith, ints), omega (arith, ints)), (omega (arith, ints), omega (arith, ints)))),
  (λ h. let left = h.1.0 in let right = h.1.1 in c.holds-then-holds.ensures.1 (omega (arith, ints), omega (arith, ints))),
)
