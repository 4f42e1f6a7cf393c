use Rattle.std.proofs.Common.{rules}
use Rattle.std.specs.Prelude.{nat_le}
use Rattle.std.proofs.lemmas.Fn.{filter_same}
use Rattle.overlap_tiles.specs.declared.ranges.HeldRange.{HeldRange}
use Rattle.overlap_tiles.proofs.ranges.free_unread_scratch_ranges.Goals as goal

pub returns : goal.returns
returns c = filter_same _ (λ (h : HeldRange). nat_le c.args.place h.last) _ (λ range b f' k. search rules) _ _ c.retain.ensures.filtered
