use Rattle.std.proofs.Common.{ℕ, ◌≡◌, List, Option, reverse, IfOk, ap, ◌∙◌, subst}
use Rattle.std.specs.Prelude.{if◌then◌else◌, []}
use Rattle.std.specs.List.{flat_map}
use Rattle.domains.specs.declared.area.Area.{Area}
use Rattle.job.specs.WellFormed.{IsJob}
use Rattle.tile_boxes.specs.Order.{order_stages_by_rank, backward}
use Rattle.tile_boxes.specs.Targets.{Target, with_number, is_function_other_than_target, numbered_box, boxes}
use Rattle.tile_boxes.specs.Walks.{target_of, new_empty_boxes, cut_hull, walked, numbered_hull}
use Rattle.tile_boxes.proofs.Lists.{flat_map-same}
use Rattle.tile_boxes.proofs.WalksGiveBoxes.{walk_gives_boxes}
use Rattle.tile_boxes.proofs.target.BoxWalk.boxes.Goals as goal

listed_are_boxes : (t : Target) (hulls : List (Option Area)) → IsJob t.job
    → hulls ≡ walked t (new_empty_boxes t.job.stages) (backward t.job.stages) → flat_map (numbered_hull t hulls) (order_stages_by_rank t.job.stages) ≡ boxes t
listed_are_boxes t hulls job is = flat_map-same (numbered_hull t hulls) (numbered_box t) (order_stages_by_rank t.job.stages) (λ g.
    ap (λ o. if is_function_other_than_target t g then with_number g o else []) (ap (λ hs. cut_hull t.job.stages hs g) is ∙ walk_gives_boxes t g job))

pub returns : goal.returns
returns c =
    let t : Target = target_of c.args.self.now in
    let stages = t.job.stages in
    let orders = c.in_ok-order.ensures ∙ ap order_stages_by_rank c.stages.ensures in
    let walk = c.deref-2.ensures.value ∙ c.in_ok-hulls.ensures
    ∙ ap (λ order. walked t (new_empty_boxes stages) (reverse order)) (c.deref.ensures.value ∙ orders) in
    let all = ap (flat_map (numbered_hull t c.deref-2.result.now)) (c.deref-3.ensures.value ∙ orders)
    ∙ listed_are_boxes t c.deref-2.result.now c.args.self.now.job.now.well walk in
    subst (λ (xs : List (ℕ × Area)). IfOk c.list_needed_boxes.result (λ found. found.items ≡ xs)) all c.list_needed_boxes.ensures
