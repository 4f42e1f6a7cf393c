use Rattle.std.proofs.Common.{◌≡◌, ◌+◌, ◌*◌, ℕ, Bool, true, false, ◌&&◌, nat_le, List, arith, refl, sym, ap, subst, ◌∙◌}
use Rattle.std.specs.Prelude.{if◌then◌else◌, slice_get}
use Rattle.job.specs.Kept.{pipeline_in}
use Rattle.job.specs.Pipeline.{Pipeline}
use Rattle.job.specs.WellFormed.{IsJob}
use Rattle.grouping.specs.Greedy.{Grouping, find_common_group, pays, has_room, with_inlined}
use Rattle.grouping.specs.inside.Standings.{AllStand}
use Rattle.grouping.specs.inside.Crossed.{boxes_in}
use Rattle.grouping.specs.inside.Trials.{grouping_of, find_kept_cost_of_stored_stage, IsCandidate, IsTrialOf}
use Rattle.grouping.specs.declared.greedy.Grouper.{Grouper}
use Rattle.grouping.specs.declared.standing.StageStatus.{StageStatus}
use Rattle.grouping.specs.declared.standing.StageStatus.TheVariants.{Stored, Inlined}
use Rattle.grouping.specs.declared.trial.InlineCandidate.{InlineCandidate}
use Rattle.grouping.specs.declared.trial.InlineTrial.{InlineTrial}
use Rattle.grouping.proofs.TrialsAreSmall.{kept_small, boxes_small}
use Rattle.grouping.proofs.InlinedStands.{IsStep, group_is, function_stands, group_stands, all_stand, pays_is, fits_is, points_kept}
use Rattle.grouping.proofs.greedy.Grouper.inline_candidate_if_it_pays_and_fits.Goals as goal
use Rattle.grouping.proofs.greedy.Grouper.inline_candidate_if_it_pays_and_fits.Goals.{else-is_inlining_cost_within_percent-via-then-is_inlining_cost_within_percent+else-has_fitting_scratch_in_each_tile, else-is_inlining_cost_within_percent-via-else-is_inlining_cost_within_percent}

step_of : (job : Pipeline) (c : Grouper) (k : InlineCandidate) → IsJob job → AllStand job (grouping_of c) c.standings.items
    → IsCandidate job (grouping_of c) k → IsStep job (grouping_of c) c.standings.items k.number k.group
step_of job c k is stand candidate = record {
  valid = is;
  stand = stand;
  there = candidate.there;
  function = candidate.function;
  stored = candidate.stored;
  behind = candidate.behind;
  shared = ap (find_common_group (grouping_of c)) (sym candidate.read) ∙ candidate.shared;
}

-- what the code weighs is the rule
weighed : (job : Pipeline) (c : Grouping) (standings : List StageStatus) (g h percent own apart : ℕ) (t : InlineTrial) (b : Bool)
    → IsStep job c standings g h → IsTrialOf job c.inlining h g t
    → own ≡ find_kept_cost_of_stored_stage (slice_get standings h) → apart ≡ find_kept_cost_of_stored_stage (slice_get standings g) → b ≡ nat_le (100 * (own + t.added))
    ((100 + percent) * (own + apart)) → b ≡ pays job percent c.inlining g h
weighed job c standings g h percent own apart t b step trial is_own is_apart is =
    let at_group = group_is job c standings g h step.valid step.stand step.shared in
    is ∙ pays_is step percent own apart t.added
    (is_own ∙ points_kept job c standings h step.stand at_group.2 at_group.0)
    (is_apart ∙ points_kept job c standings g step.stand step.there step.stored) trial.added

pub overflow_add-points : goal.overflow_add-points
overflow_add-points c =
    let job = pipeline_in c.args.job.now in
    let self = c.args.self.now in
    let g = c.args.candidate.now.number in
    let h = c.args.candidate.now.group in
    let step = step_of job self c.args.candidate.now c.args.job.now.well c.requires.stand c.requires.candidate in
    let at_group = group_is job (grouping_of self) self.standings.items g h step.valid step.stand step.shared in
    let own = c.find_kept_cost_of_stored_stage-own.ensures ∙ points_kept job (grouping_of self) self.standings.items h step.stand at_group.2 at_group.0 in
    let added = c.in_ok-trial.ensures.added in
    omega (arith, own, added, kept_small job self.inlining h c.args.job.now.well, boxes_small job self.inlining h g c.args.job.now.well)

pub inline_function-requires-clause-group : goal.inline_function-requires-clause-group
inline_function-requires-clause-group c =
    let step =
    step_of (pipeline_in c.args.job.now) c.args.self.now c.args.candidate.now c.args.job.now.well c.requires.stand
    c.requires.candidate in
    let there = (group_is (pipeline_in c.args.job.now) (grouping_of c.args.self.now) c.args.self.now.standings.items
    c.args.candidate.now.number c.args.candidate.now.group step.valid step.stand step.shared).2 in
    let all = step.stand.all in
    omega arith

pub returns-then-has_fitting_scratch_in_each_tile-clause-grouping : goal.returns-then-has_fitting_scratch_in_each_tile-clause-grouping
returns-then-has_fitting_scratch_in_each_tile-clause-grouping c =
    let job = pipeline_in c.args.job.now in
    let self = c.args.self.now in
    let g = c.args.candidate.now.number in
    let h = c.args.candidate.now.group in
    let step = step_of job self c.args.candidate.now c.args.job.now.well c.requires.stand c.requires.candidate in
    let trial = c.in_ok-trial.ensures in
    let it_pays =
    sym (weighed job (grouping_of self) self.standings.items g h c.args.percent c.find_kept_cost_of_stored_stage-own.result c.find_kept_cost_of_stored_stage-apart.result
    c.in_ok-trial.trial c.is_inlining_cost_within_percent.result step trial c.find_kept_cost_of_stored_stage-own.ensures c.find_kept_cost_of_stored_stage-apart.ensures c.is_inlining_cost_within_percent.ensures)
    ∙ c.if-is_inlining_cost_within_percent.true in
    let it_fits = sym (c.has_fitting_scratch_in_each_tile.ensures ∙ fits_is step c.in_ok-trial.trial.scratch.items trial.in_scratch) ∙ c.if-has_fitting_scratch_in_each_tile.true in
    c.inline_function.ensures.grouping ∙ sym (λ i. if it_pays i && it_fits i then with_inlined (grouping_of self) g h else grouping_of self)

pub returns-then-has_fitting_scratch_in_each_tile-clause-stand : goal.returns-then-has_fitting_scratch_in_each_tile-clause-stand
returns-then-has_fitting_scratch_in_each_tile-clause-stand c =
    let job = pipeline_in c.args.job.now in
    let self = c.args.self.now in
    let g = c.args.candidate.now.number in
    let h = c.args.candidate.now.group in
    let step = step_of job self c.args.candidate.now c.args.job.now.well c.requires.stand c.requires.candidate in
    let at_group = group_is job (grouping_of self) self.standings.items g h step.valid step.stand step.shared in
    let trial = c.in_ok-trial.ensures in
    let points = c.find_kept_cost_of_stored_stage-own.result + c.in_ok-trial.trial.added in
    let own = c.find_kept_cost_of_stored_stage-own.ensures ∙ points_kept job (grouping_of self) self.standings.items h step.stand at_group.2 at_group.0 in
    let fits = sym c.has_fitting_scratch_in_each_tile.ensures ∙ c.if-has_fitting_scratch_in_each_tile.true in
    let stand = all_stand step (Inlined c.in_ok-trial.trial.boxes) (Stored points c.in_ok-trial.trial.scratch)
    (function_stands step (boxes_in c.in_ok-trial.trial.boxes) trial.boxes)
    (group_stands step points c.in_ok-trial.trial.scratch.items (λ i. own i + trial.added i) trial.in_scratch fits) in
    subst (λ (d : Grouping). AllStand job d c.inline_function.new.self.standings.items) (sym c.inline_function.ensures.grouping)
    (subst (AllStand job (with_inlined (grouping_of self) g h)) (sym c.inline_function.ensures.standings) stand)

not_both : (a b : Bool) (x y : Grouping) → (a && b) ≡ false → y ≡ (if a && b then x else y)
not_both a b x y e = sym (ap (λ d. if d then x else y) e)

pub returns-else-is_inlining_cost_within_percent-clause-grouping : goal.returns-else-is_inlining_cost_within_percent-clause-grouping
returns-else-is_inlining_cost_within_percent-clause-grouping c =
    let job = pipeline_in c.args.job.now in
    let self = c.args.self.now in
    let g = c.args.candidate.now.number in
    let h = c.args.candidate.now.group in
    let step = step_of job self c.args.candidate.now c.args.job.now.well c.requires.stand c.requires.candidate in
    let trial = c.in_ok-trial.ensures in
    let weighs =
    weighed job (grouping_of self) self.standings.items g h c.args.percent c.find_kept_cost_of_stored_stage-own.result c.find_kept_cost_of_stored_stage-apart.result
    c.in_ok-trial.trial c.is_inlining_cost_within_percent.result step trial c.find_kept_cost_of_stored_stage-own.ensures c.find_kept_cost_of_stored_stage-apart.ensures c.is_inlining_cost_within_percent.ensures in
    not_both (pays job c.args.percent self.inlining g h) (has_room job self.inlining g h) (with_inlined (grouping_of self) g h)
    (grouping_of self) (elim c.else-is_inlining_cost_within_percent.branch [
      | else-is_inlining_cost_within_percent-via-then-is_inlining_cost_within_percent+else-has_fitting_scratch_in_each_tile w ↦
          let it_fits = sym (w.has_fitting_scratch_in_each_tile.ensures ∙ fits_is step c.in_ok-trial.trial.scratch.items trial.in_scratch) ∙ w.if-has_fitting_scratch_in_each_tile.false in
          second_false (pays job c.args.percent self.inlining g h) (has_room job self.inlining g h) it_fits
      | else-is_inlining_cost_within_percent-via-else-is_inlining_cost_within_percent w ↦ ap (λ b. b && has_room job self.inlining g h) (sym weighs ∙ w.if-is_inlining_cost_within_percent.false)
    ])
  where
    second_false : (a b : Bool) → b ≡ false → (a && b) ≡ false
    second_false true b e = e
    second_false false b e = refl
