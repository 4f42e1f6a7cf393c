use Rattle.std.proofs.Common.{arith, inl, inr}
use Rattle.row_kernels.proofs.Leaving.{lands, passes}
use Rattle.row_kernels.proofs.guards.count_columns_to_remainder.Goals.{then-rest-left, else-rest-left}
use Rattle.row_kernels.proofs.guards.count_columns_to_remainder.Goals as goal

pub returns-clause-lands : goal.returns-clause-lands
returns-clause-lands c = λ v e. elim c.if-rest-left.branch [
  | then-rest-left w ↦
      let less = w.if-rest-left.true in
      let is = w.gap-is in
      lands v c.args.modulus c.args.left c.if-rest-left.gap c.args.rest (omega arith) c.requires.rest e (omega arith) (inr (omega arith))
  | else-rest-left w ↦
      let more = w.if-rest-left.false in
      let is = w.gap-is in
      lands v c.args.modulus c.args.left c.if-rest-left.gap c.args.rest (omega arith) c.requires.rest e (omega arith) (inl (omega arith))
]

pub returns-clause-first : goal.returns-clause-first
returns-clause-first c = λ v e k l. elim c.if-rest-left.branch [
  | then-rest-left w ↦
      let less = w.if-rest-left.true in
      let is = w.gap-is in
      passes v c.args.modulus c.args.left k c.args.rest (omega arith) e (omega arith) (omega arith) (omega arith)
  | else-rest-left w ↦
      let more = w.if-rest-left.false in
      let is = w.gap-is in
      passes v c.args.modulus c.args.left k c.args.rest (omega arith) e (omega arith) (omega arith) (omega arith)
]
