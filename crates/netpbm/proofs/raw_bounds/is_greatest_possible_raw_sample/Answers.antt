-- What a byte and what two bytes spell at most.
use Rattle.std.proofs.lemmas.Bool.{OnTrue_from, eqb-true}
use Rattle.netpbm.proofs.RawReads.{any_byte, any_pair}
use Rattle.netpbm.proofs.raw_bounds.is_greatest_possible_raw_sample.Goals as goal

pub returns-then-max-eq255 : goal.returns-then-max-eq255
returns-then-max-eq255 c = any_byte c.args.max c.if-max-eq255.true

pub returns : goal.returns
returns c = OnTrue_from _ _ (λ e. any_pair c.args.max (eqb-true c.args.max 65535 e))
