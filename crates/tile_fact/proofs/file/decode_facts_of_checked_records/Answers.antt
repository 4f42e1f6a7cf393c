use Rattle.std.proofs.Common.{◌≡◌, ◌++◌, ◌+◌, ◌-◌, [], ◌∷◌, List, Some, ap, cond, sym, ◌∙◌}
use Rattle.tile_fact.specs.declared.fact.Fact.{Fact}
use Rattle.tile_fact.specs.Numbers.{fact_of, first_pairs}
use Rattle.tile_fact.specs.Reading.{list_read, fact_read}
use Rattle.tile_fact.proofs.LoopLaws.{with_front, goes_on, must_step, never_read, is_done, fact_err, fact_of_step, body_has_records, are_all}
use Rattle.tile_fact.proofs.file.decode_facts_of_checked_records.Goals as goal

pub returns-in-Err-clause-memory : goal.returns-in-Err-clause-memory
returns-in-Err-clause-memory c =
    let retired = first_pairs c.args.retired.now.count c.args.retired.now.bytes.now in
    let read = body_has_records c.args.total retired c.args.count c.args.bytes.now c.requires.faultless in
    let step =
    must_step (fact_read c.args.total retired) c.loop.facts.items c.args.count c.loop.counter _ _ _ c.loop.invariant.1.1 c.loop-test.true read in
    absurd (never_read _ _ (fact_err c.args.total retired c.loop.invariant.1.0 _ _ c.in-Err.ensures.read) step)

pub loop-preserved : goal.loop-preserved
loop-preserved c =
    let retired = first_pairs c.args.retired.now.count c.args.retired.now.bytes.now in
    let fact = fact_of c.in-Ok.read.0.label.key c.in-Ok.read.0.label.kind c.in-Ok.read.0.numbers.now in
    let read = body_has_records c.args.total retired c.args.count c.args.bytes.now c.requires.faultless in
    let step =
    must_step (fact_read c.args.total retired) c.loop.facts.items c.args.count c.loop.counter _ _ _ c.loop.invariant.1.1 c.loop-test.true read in
    let one = fact_of_step c.args.total retired c.loop.invariant.1.0 _ (fact, _) c.in-Ok.ensures.read step in
    let facts = c.loop.facts.items in
    let longer = c.push.ensures.items ∙ ap (λ t. cond t (facts ++ (c.in_ok-fact.fact ∷ [])) facts) (sym c.in_ok-map_err.ensures.variant) in
    let pushed : c.push.new.self.items ≡ facts ++ fact ∷ [] = longer ∙ ap (λ (f : Fact). facts ++ f ∷ []) c.in_ok-fact.ensures in (
      c.in-Ok.ensures.behind,
      (
        Some fact,
        ap (λ (l : List Fact). with_front l
            (list_read (fact_read c.args.total retired) (c.args.count - (c.loop.counter + 1)) (Some fact) c.in-Ok.read.1.now)) pushed
            ∙ goes_on (fact_read c.args.total retired) c.loop.facts.items c.args.count c.loop.counter _ _ _ c.loop.invariant.1.1 fact _
            c.loop-test.true one,
      ),
    )

pub returns-clause-facts : goal.returns-clause-facts
returns-clause-facts c =
    let retired = first_pairs c.args.retired.now.count c.args.retired.now.bytes.now in
    are_all c.args.total retired c.args.count c.args.bytes.now _ _ c.requires.faultless
    (is_done (fact_read c.args.total retired) c.loop.facts.items c.args.count c.loop.counter _ _ _ c.loop.invariant.1.1 c.loop-test.false)
