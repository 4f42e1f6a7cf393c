use Rattle.std.proofs.lemmas.List.{set-set}
use Rattle.row_rings.proofs.ring.RowRings.take_out_ring.Goals as goal

pub returns-clause-back : goal.returns-clause-back
returns-clause-back g c = λ ring. set-set c.args.self.now.rings.items c.args.stage c.replace.new.dest ring
