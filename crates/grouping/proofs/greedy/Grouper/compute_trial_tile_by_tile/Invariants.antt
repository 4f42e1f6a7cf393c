use Rattle.std.proofs.Common.{◌≡◌, ◌+◌, ◌++◌, map, drop, length}
use Rattle.std.specs.List.{sum}
use Rattle.job.specs.Kept.{pipeline_in}
use Rattle.tile_boxes.specs.Targets.{box, target_over}
use Rattle.tile_boxes.specs.Costs.{scratch}
use Rattle.grouping.specs.inside.Standings.{areas_at, boxes_by_tile}
use Rattle.grouping.specs.inside.Between.{AreWhole}
use Rattle.grouping.specs.inside.Trials.{count_box_points}
use Rattle.grouping.proofs.greedy.Grouper.compute_trial_tile_by_tile.Given as goal

abbrev pub invariant-loop-place : goal.invariant-loop-place
invariant-loop-place l =
    (length l.hulls ≡ length l.fn.hulls)
    × (l.trial.boxes.items
    ++ map (λ a. box (target_over (pipeline_in l.job) l.self.inlining l.candidate.group a) l.candidate.number) (drop l.place l.tiles)
    ≡ boxes_by_tile (pipeline_in l.job) l.self.inlining l.candidate.group l.candidate.number)
    × (l.trial.added ≡ sum (map count_box_points l.trial.boxes.items))
    × (l.trial.scratch.items
    ++ map (λ a. scratch (target_over (pipeline_in l.job) l.self.inlining l.candidate.group a)
    + count_box_points (box (target_over (pipeline_in l.job) l.self.inlining l.candidate.group a) l.candidate.number))
    (drop l.place l.tiles)
    ≡ map (λ a. scratch (target_over (pipeline_in l.job) l.self.inlining l.candidate.group a)
    + count_box_points (box (target_over (pipeline_in l.job) l.self.inlining l.candidate.group a) l.candidate.number))
    (areas_at (pipeline_in l.job) l.candidate.group))
    × (length l.wholes.boxes.items ≡ l.place)
    × AreWhole (pipeline_in l.job) l.self l.candidate l.wholes.boxes.items
