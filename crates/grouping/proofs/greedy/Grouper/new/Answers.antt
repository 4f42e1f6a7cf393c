use Rattle.std.proofs.Common.{◌≡◌, ℕ, ◌+◌, ◌++◌, ◌∷◌, [], List, length, sym, ap, subst, ◌∙◌, arith, map}
use Rattle.std.proofs.lemmas.List.{length-append, length-map}
use Rattle.job.specs.Kept.{pipeline_in}
use Rattle.job.specs.Views.{stage_view}
use Rattle.std.specs.List.{range_with_len}
use Rattle.grouping.specs.Greedy.{Grouping, initial_grouping}
use Rattle.grouping.specs.inside.Standings.{Stands, AllStand}
use Rattle.grouping.specs.inside.Trials.{grouping_of}
use Rattle.grouping.specs.declared.standing.StageStatus.{StageStatus}
use Rattle.tile_boxes.proofs.Lists.{range_more}
use Rattle.grouping.proofs.GreedyIsTheRule.{EachStands, one_stands_more, all_at_first}
use Rattle.grouping.proofs.greedy.Grouper.new.Goals as goal

one_longer : {X : Type 0} (xs ys : List X) (y : X) (n : ℕ) → length xs ≡ n → ys ≡ xs ++ y ∷ [] → length ys ≡ n + 1
one_longer xs ys y n e is = ap length is ∙ length-append xs (y ∷ []) ∙ ap (λ k. k + 1) e

pub loop-number-preserved : goal.loop-number-preserved
loop-number-preserved c =
    let job = pipeline_in c.args.job.now in
    let before = c.loop-number.invariant in
    let standings = c.loop-number.standings.items in
    let new = c.in_ok-new_stored_stage_status.field-0 in
    let more = c.in_ok-push-2.ensures.items in
    let each = one_stands_more job (initial_grouping job) standings new before.2
    (subst (λ (k : ℕ). Stands job (initial_grouping job) k new) (sym before.1) c.in_ok-new_stored_stage_status.ensures) in (
      c.in_ok-push.ensures.items ∙ ap (λ (xs : List ℕ). xs ++ c.loop-number.number ∷ []) before.0 ∙ sym (range_more c.loop-number.number),
      one_longer standings c.push-in-loop-number.new.self.items new c.loop-number.number before.1 more,
      subst (EachStands job (initial_grouping job)) (sym {A = List StageStatus} more) each,
    )

pub returns-clause-stand : goal.returns-clause-stand
returns-clause-stand c =
    let job = pipeline_in c.args.job.now in
    let before = c.loop-number.invariant in
    let stages = c.stages-number-end.result.now in
    let counted : length (map stage_view stages) ≡ length job.stages = ap length c.stages-number-end.ensures in
    let last : c.loop-number.number ≡ length job.stages = omega
    (arith, counted, length-map stages stage_view, c.loop-number-test.false, c.loop-number.auto.number-end) in
    let groups = before.0 ∙ ap (range_with_len 0) last in
    let is : grouping_of
    (record { inlining = c.in_ok-inlining.inlining; groups = c.loop-number.groups; standings = c.loop-number.standings })
    ≡ initial_grouping job = (λ i. record { inlining = c.in_ok-inlining.ensures i; groups = groups i }) in
    subst (λ (d : Grouping). AllStand job d c.loop-number.standings.items) (sym is)
    (all_at_first job c.loop-number.standings.items (before.1 ∙ last) before.2)
