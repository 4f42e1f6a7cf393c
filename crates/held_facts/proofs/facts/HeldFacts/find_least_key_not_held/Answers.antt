use Rattle.std.proofs.Common.{◌+◌, sym, ◌∙◌, subst, take}
use Rattle.held_facts.proofs.AskedLaws.{IsFound, found_first, found_later, found_held}
use Rattle.held_facts.proofs.facts.HeldFacts.find_least_key_not_held.Goals as goal
use Rattle.held_facts.proofs.facts.HeldFacts.find_least_key_not_held.Goals.{then-count_facts_of_key-eq0+then-is_below_least_key_not_held, else-count_facts_of_key-eq0}
use Rattle.held_facts.proofs.facts.HeldFacts.find_least_key_not_held.Goals.{else-count_facts_of_key-eq0-via-then-count_facts_of_key-eq0+else-is_below_least_key_not_held}
use Rattle.held_facts.proofs.facts.HeldFacts.find_least_key_not_held.Goals.{else-count_facts_of_key-eq0-via-else-count_facts_of_key-eq0}

pub loop-key-preserved : goal.loop-key-preserved
loop-key-preserved g c =
    let s = c.args.self.now in
    let keys = c.args.keys.now in
    let i = c.loop-key.key-index in
    let key = c.key-item.result in
    let found = c.loop-key.least in
    elim c.if-count_facts_of_key-eq0.branch [
      | then-count_facts_of_key-eq0+then-is_below_least_key_not_held w ↦
          subst (IsFound s (take (i + 1) keys)) (sym w.least-is)
          (found_first s keys i c.count_facts_of_key.result key found c.loop-key-test.true c.key-item.is c.count_facts_of_key.ensures w.if-count_facts_of_key-eq0.true
          (sym w.is_below_least_key_not_held.ensures ∙ w.if-is_below_least_key_not_held.true) c.loop-key.invariant)
      | else-count_facts_of_key-eq0 w ↦
          subst (IsFound s (take (i + 1) keys)) (sym w.least-is)
          (elim w.else-count_facts_of_key-eq0.branch [
            | else-count_facts_of_key-eq0-via-then-count_facts_of_key-eq0+else-is_below_least_key_not_held v ↦
                found_later s keys i key found c.loop-key-test.true c.key-item.is (sym v.is_below_least_key_not_held.ensures ∙ v.if-is_below_least_key_not_held.false)
                c.loop-key.invariant
            | else-count_facts_of_key-eq0-via-else-count_facts_of_key-eq0 v ↦ found_held s keys i c.count_facts_of_key.result key found c.loop-key-test.true c.key-item.is
                c.count_facts_of_key.ensures v.if-count_facts_of_key-eq0.false c.loop-key.invariant
          ])
    ]
