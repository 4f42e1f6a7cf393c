use Rattle.std.proofs.Common.{◌≡◌, ◌+◌, ◌<◌, ◌≤◌, ◌∷◌, [], suc, ℕ, List, drop, length, get_or, reverse, arith, sym, ap, subst, ◌∙◌}
use Rattle.std.proofs.Math.Seq.{drop-cons}
use Rattle.std.proofs.lemmas.List.{drop_all}
use Rattle.std.proofs.lemmas.List.Elements.{All-head}
use Rattle.job.specs.Kept.{pipeline_in}
use Rattle.job.specs.Pipeline.{Pipeline}
use Rattle.tile_boxes.specs.Order.{order_stages_by_rank}
use Rattle.grouping.specs.Greedy.{Grouping, visited}
use Rattle.grouping.specs.inside.Standings.{AllStand}
use Rattle.grouping.specs.inside.Trials.{grouping_of}
use Rattle.grouping.specs.declared.standing.StageStatus.{StageStatus}
use Rattle.grouping.proofs.GreedyIsTheRule.{Left, IsFree, all_left, one_left_less, inlining_at_last, rooms_of}
use Rattle.grouping.proofs.greedy.group_stages_greedily.Goals as goal

-- the stage that is next, and those that are left after it
next : (job : Pipeline) (percent : ℕ) (c : Grouping) (standings : List StageStatus) (gs : List ℕ) (k : ℕ) → k < length gs
    → Left job percent c standings (drop k gs) → Left job percent c standings (get_or gs k 0 ∷ drop (suc k) gs)
next job percent c standings gs k low left = subst (Left job percent c standings) (drop-cons gs k 0 low) left

-- it is there and stored, and what is inlined comes after it
next_is : (job : Pipeline) (percent : ℕ) (c : Grouping) (standings : List StageStatus) (gs : List ℕ) (k : ℕ) → k < length gs
    → Left job percent c standings (drop k gs) → (get_or gs k 0 < length job.stages) × IsFree job c.inlining (get_or gs k 0)
next_is job percent c standings gs k low left =
    let at = next job percent c standings gs k low left in (
      All-head (λ g. g < length job.stages) (get_or gs k 0) (drop (suc k) gs) at.there,
      All-head (IsFree job c.inlining) (get_or gs k 0) (drop (suc k) gs) at.free,
    )

done : (job : Pipeline) (percent : ℕ) (c d : Grouping) (standings after : List StageStatus) (gs : List ℕ) (k : ℕ) → k < length gs
    → Left job percent c standings (drop k gs)
    → d ≡ visited job percent c (get_or gs k 0) → AllStand job d after → Left job percent d after (drop (k + 1) gs)
done job percent c d standings after gs k low left is stand =
    let next_place : suc k ≡ k + 1 = omega arith in
    subst (λ (n : ℕ). Left job percent d after (drop n gs)) next_place
    (one_left_less job percent c d standings after (get_or gs k 0) (drop (suc k) gs) (next job percent c standings gs k low left) is stand)

none_left : (job : Pipeline) (percent : ℕ) (c : Grouping) (standings : List StageStatus) (gs : List ℕ) (k : ℕ) → length gs ≤ k
    → Left job percent c standings (drop k gs) → Left job percent c standings []
none_left job percent c standings gs k past left = subst (Left job percent c standings) (drop_all k gs past) left

pub loop-number-init : goal.loop-number-init
loop-number-init c =
    let job = pipeline_in c.args.job.now in
    let grouping = c.in_ok-grouping.grouping in
    let order = c.deref-number-items.ensures.value ∙ c.reverse.ensures.items
    ∙ ap reverse (c.in_ok-order.ensures ∙ ap order_stages_by_rank c.stages.ensures) in (
      order,
      subst (Left job c.args.percent (grouping_of grouping) grouping.standings.items) (sym order) (all_left job c.args.percent
          (grouping_of grouping) grouping.standings.items c.in_ok-grouping.ensures.grouping c.in_ok-grouping.ensures.stand),
    )

pub loop-number-preserved : goal.loop-number-preserved
loop-number-preserved c =
    let job = pipeline_in c.args.job.now in
    let before = c.loop-number.grouping in (
      c.loop-number.invariant.0,
      done job c.args.percent (grouping_of before)
          (grouping_of c.inline_function_if_rule_allows.new.self) before.standings.items c.inline_function_if_rule_allows.new.self.standings.items c.deref-number-items.result.now
          c.loop-number.number-index c.loop-number-test.true c.loop-number.invariant.1 c.in_ok-inline_function_if_rule_allows.ensures.grouping
          c.in_ok-inline_function_if_rule_allows.ensures.stand,
    )

pub inline_function_if_rule_allows-requires-clause-stand : goal.inline_function_if_rule_allows-requires-clause-stand
inline_function_if_rule_allows-requires-clause-stand c = c.loop-number.invariant.1.stand

pub inline_function_if_rule_allows-requires-clause-there : goal.inline_function_if_rule_allows-requires-clause-there
inline_function_if_rule_allows-requires-clause-there c =
    (next_is (pipeline_in c.args.job.now) c.args.percent (grouping_of c.loop-number.grouping) c.loop-number.grouping.standings.items
    c.deref-number-items.result.now c.loop-number.number-index c.loop-number-test.true c.loop-number.invariant.1).0

pub inline_function_if_rule_allows-requires-clause-stored : goal.inline_function_if_rule_allows-requires-clause-stored
inline_function_if_rule_allows-requires-clause-stored c =
    (next_is (pipeline_in c.args.job.now) c.args.percent (grouping_of c.loop-number.grouping) c.loop-number.grouping.standings.items
    c.deref-number-items.result.now c.loop-number.number-index c.loop-number-test.true c.loop-number.invariant.1).1.0

pub inline_function_if_rule_allows-requires-clause-behind : goal.inline_function_if_rule_allows-requires-clause-behind
inline_function_if_rule_allows-requires-clause-behind c =
    (next_is (pipeline_in c.args.job.now) c.args.percent (grouping_of c.loop-number.grouping) c.loop-number.grouping.standings.items
    c.deref-number-items.result.now c.loop-number.number-index c.loop-number-test.true c.loop-number.invariant.1).1.1

pub returns-clause-inlining : goal.returns-clause-inlining
returns-clause-inlining c =
    let job = pipeline_in c.args.job.now in
    let before = c.loop-number.grouping in
    inlining_at_last job c.args.percent (grouping_of before) before.standings.items
    (none_left job c.args.percent (grouping_of before) before.standings.items c.deref-number-items.result.now c.loop-number.number-index
    c.loop-number-test.false c.loop-number.invariant.1)

pub returns-clause-schedule : goal.returns-clause-schedule
returns-clause-schedule c = c.loop-number.invariant.1.schedule

pub returns-clause-fits : goal.returns-clause-fits
returns-clause-fits c =
    rooms_of (pipeline_in c.args.job.now) (grouping_of c.loop-number.grouping) c.loop-number.grouping.standings.items
    c.loop-number.invariant.1.stand

pub returns-clause-stand : goal.returns-clause-stand
returns-clause-stand c = c.loop-number.invariant.1.stand
