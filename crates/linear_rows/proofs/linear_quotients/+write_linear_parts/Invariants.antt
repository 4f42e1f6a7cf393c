use Rattle.std.proofs.Common.{length}
use Rattle.linear_rows.proofs.linear_quotients.+write_linear_parts.Given as goal

abbrev pub decreases-write_linear_parts : goal.decreases-write_linear_parts
decreases-write_linear_parts g l = length l.out.now
