use Rattle.std.proofs.Common.{◌≡◌, ◌+◌, map, take, length, arith, refl, sym, ap, ◌∙◌}
use Rattle.std.specs.List.{sum}
use Rattle.std.proofs.lemmas.Option.{slice_get_read}
use Rattle.job.specs.Kept.{pipeline_in}
use Rattle.grouping.specs.Greedy.{find_common_group}
use Rattle.grouping.specs.inside.Standings.{boxes_by_tile}
use Rattle.grouping.specs.inside.Trials.{grouping_of, count_box_points, scratch_with}
use Rattle.grouping.proofs.InlinedStands.{group_is}
use Rattle.grouping.proofs.TrialsOfBoxes.{one_more_added, added_small, held_small, one_more_held}
use Rattle.grouping.proofs.greedy.Grouper.tally_box_row.Goals as goal

pub add_tile-requires-clause-added : goal.add_tile-requires-clause-added
add_tile-requires-clause-added c =
    let job = pipeline_in c.args.job.now in
    let self = c.args.self.now in
    let k = c.args.candidate.now in
    let place = c.args.first + c.loop-col.col in
    let cols = c.args.cols.now in
    let next = c.requires.row c.loop-col.col c.index-cols-col.result
    (slice_get_read cols (length cols) c.loop-col.col c.index-cols-col.result refl c.loop-col-test.true c.index-cols-col.is) in
    let points = c.points.ensures.number ∙ ap count_box_points (sym next.1) in
    let small = added_small job self.inlining k.group k.number place next.0 c.loop-col.taken.added c.points.result c.args.job.now.well
    c.loop-col.invariant.added points in
    omega arith

pub add_tile-requires-clause-scratch : goal.add_tile-requires-clause-scratch
add_tile-requires-clause-scratch c =
    let job = pipeline_in c.args.job.now in
    let self = c.args.self.now in
    let k = c.args.candidate.now in
    let place = c.args.first + c.loop-col.col in
    let cols = c.args.cols.now in
    let next = c.requires.row c.loop-col.col c.index-cols-col.result
    (slice_get_read cols (length cols) c.loop-col.col c.index-cols-col.result refl c.loop-col-test.true c.index-cols-col.is) in
    let points = c.points.ensures.number ∙ ap count_box_points (sym next.1) in
    let shared = ap (find_common_group (grouping_of self)) (sym c.requires.candidate.read) ∙ c.requires.candidate.shared in
    let at_group = group_is job (grouping_of self) self.standings.items k.number k.group c.args.job.now.well c.requires.stand shared in
    let small = held_small job self.inlining k.group k.number place next.0 (grouping_of self) self.standings.items c.requires.stand
    at_group.2 at_group.0 refl c.find_kept_scratch.result c.points.result c.args.job.now.well c.find_kept_scratch.ensures points in
    omega arith

pub loop-col-preserved : goal.loop-col-preserved
loop-col-preserved c =
    let job = pipeline_in c.args.job.now in
    let self = c.args.self.now in
    let k = c.args.candidate.now in
    let place = c.args.first + c.loop-col.col in
    let cols = c.args.cols.now in
    let next = c.requires.row c.loop-col.col c.index-cols-col.result
    (slice_get_read cols (length cols) c.loop-col.col c.index-cols-col.result refl c.loop-col-test.true c.index-cols-col.is) in
    let points = c.points.ensures.number ∙ ap count_box_points (sym next.1) in
    let shared = ap (find_common_group (grouping_of self)) (sym c.requires.candidate.read) ∙ c.requires.candidate.shared in
    let at_group = group_is job (grouping_of self) self.standings.items k.number k.group c.args.job.now.well c.requires.stand shared in
    let more : place + 1 ≡ c.args.first + (c.loop-col.col + 1) = omega arith in
    record {
      added = c.in_ok-add_tile.ensures.added
          ∙ one_more_added job self.inlining k.group k.number place next.0 c.loop-col.taken.added c.points.result
          c.loop-col.invariant.added points
          ∙ ap (λ n. sum (map count_box_points (take n (boxes_by_tile job self.inlining k.group k.number)))) more;
      in_scratch = one_more_held job self.inlining k.group k.number place next.0 (grouping_of self) self.standings.items c.requires.stand
          at_group.2 at_group.0 refl c.find_kept_scratch.result c.points.result c.loop-col.taken.scratch.items c.add_tile.new.self.scratch.items
          c.loop-col.invariant.in_scratch c.find_kept_scratch.ensures points c.in_ok-add_tile.ensures.scratch
          ∙ ap (λ n. take n (scratch_with job self.inlining k.group k.number)) more;
    }
