use Rattle.job.specs.Kept.{pipeline_in}
use Rattle.grouping.specs.inside.Between.{find_group_tile_by_row_and_column, AreSides}
use Rattle.std.proofs.Common.{◌≡◌, length}
use Rattle.grouping.proofs.greedy.Grouper.find_separable_box_columns.Given as goal

abbrev pub invariant-loop-j : goal.invariant-loop-j
invariant-loop-j l =
    (length l.hulls ≡ length l.fn.hulls)
    × AreSides (pipeline_in l.job) l.self l.candidate (λ j. find_group_tile_by_row_and_column l.grid 0 j) (λ a. a.cols) l.j l.cols.items
