use Rattle.job.specs.Kept.{pipeline_in}
use Rattle.grouping.specs.inside.Between.{find_group_tile_by_row_and_column, AreSides}
use Rattle.std.proofs.Common.{◌≡◌, length}
use Rattle.grouping.proofs.greedy.Grouper.find_separable_box_rows.Given as goal

abbrev pub invariant-loop-i : goal.invariant-loop-i
invariant-loop-i l =
    (length l.hulls ≡ length l.fn.hulls)
    × AreSides (pipeline_in l.job) l.self l.candidate (λ i. find_group_tile_by_row_and_column l.grid i 0) (λ a. a.rows) l.i l.rows.items
