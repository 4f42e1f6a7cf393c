use Rattle.std.proofs.Common.{◌+◌, ◌≤◌, ◌∙◌, List, sym, subst}
use Rattle.std.specs.Prelude.{nat_le}
use Rattle.std.proofs.lemmas.List.Elements.{All-filter}
use Rattle.tile_boxes.specs.Costs.{most_scratch}
use Rattle.overlap_tiles.proofs.Gaps.{EndBy}
use Rattle.overlap_tiles.specs.declared.ranges.HeldRange.{HeldRange}
use Rattle.overlap_tiles.proofs.ranges.assign_scratch_range.Goals as goal

pub find_first_gap-start-requires-clause-within : goal.find_first_gap-start-requires-clause-within
find_first_gap-start-requires-clause-within c =
    subst (λ (hs : List HeldRange). EndBy most_scratch hs) (sym (c.deref.ensures.value ∙ c.free_unread_scratch_ranges.ensures))
    (All-filter (λ h. nat_le c.args.place h.last) (λ (h : HeldRange). h.start + h.len ≤ most_scratch) c.args.held.now.items
    c.requires.within)
