use Rattle.std.proofs.Common.{ℕ, Some, ◌+◌, ◌-◌, ◌≤◌, ◌≡◌, slice_get, arith, sym, subst}
use Rattle.std.specs.Prelude.{Contains}
use Rattle.std.proofs.lemmas.Option.{slice_get_within}
use Rattle.pipe_checks.specs.StageLinks.{StageLinks}
use Rattle.pipe_checks.proofs.Ranking.{links_read}
use Rattle.pipe_checks.proofs.Closing.{IsUnderWay, IsNext, under_way_more, ahead_at}
use Rattle.pipe_checks.proofs.cycles.trace_shortest_cycle.Goals as goal

pub loop-steps-preserved : goal.loop-steps-preserved
loop-steps-preserved c =
    let g = c.args.graph.now in
    let far = c.args.far.now in
    let left = c.loop-steps.steps - 1 in
    let next = c.find_least_read_at_cycle_distance-at.result in
    let test = c.loop-steps-test.true in
    let links = sym (links_read g c.loop-steps.at _ c.loop-steps.invariant.2 c.index-graph-at.is) in
    let is_next : IsNext g far c.loop-steps.at left next = record {
      read = subst (λ (l : StageLinks). Contains l.reads next) links c.find_least_read_at_cycle_distance-at.ensures.read;
      at = c.find_least_read_at_cycle_distance-at.ensures.at;
      least =
          subst (λ (l : StageLinks). (u : ℕ) → Contains l.reads u → slice_get far u ≡ Some (Some left) → next ≤ u) links
          c.find_least_read_at_cycle_distance-at.ensures.least;
    } in
    let less : c.loop-steps.steps ≡ left + 1 = omega arith in
    let under = subst (IsUnderWay g c.args.start far c.args.left c.loop-steps.way.items c.loop-steps.at) less c.loop-steps.invariant.0 in
    let within = slice_get_within far next (Some left) c.find_least_read_at_cycle_distance-at.ensures.at in
    let e = c.in_ok-push-2.ensures.items in (
      rw e (under_way_more g c.args.start far c.args.left c.loop-steps.way.items c.loop-steps.at left next under is_next),
      ahead_at g c.args.start next left far c.requires.distances c.find_least_read_at_cycle_distance-at.ensures.at,
      omega (arith, within, c.requires.distances.each),
    )
