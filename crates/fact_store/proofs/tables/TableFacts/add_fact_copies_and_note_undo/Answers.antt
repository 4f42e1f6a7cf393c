use Rattle.std.proofs.Common.{◌≡◌, ◌+◌, sym, ap, ◌∙◌, arith, refl, take}
use Rattle.std.specs.Int.{from_bool}
use Rattle.fact_store.proofs.GrowthLaws.{join_none, join_more, no_step, count_one, at_most_one}
use Rattle.fact_store.specs.inside.Tables.{set_in}
use Rattle.fact_store.proofs.tables.TableFacts.add_fact_copies_and_note_undo.Goals as goal

pub loop-fact-init : goal.loop-fact-init
loop-fact-init c =
    let start = set_in c.args.self.now.tables.entries in
    record { added = sym (join_none start); few = omega arith; counted = sym (no_step start); undo = refl }

pub loop-fact-preserved : goal.loop-fact-preserved
loop-fact-preserved c =
    let start = set_in c.args.self.now.tables.entries in
    let now = set_in c.loop-fact.self.tables.entries in
    let next = set_in c.add_fact_copy_and_note_undo.new.self.tables.entries in
    let b = c.in_ok-add_fact_copy_and_note_undo.field-0 in
    let is : c.from.result ≡ from_bool b = c.from.ensures in
    let one = at_most_one b in
    let few = c.loop-fact.invariant.few in
    record {
      added =
          join_more start now next c.args.facts.now c.loop-fact.fact-index c.fact-item.result c.fact-item.is c.loop-fact.invariant.added
          c.in_ok-add_fact_copy_and_note_undo.ensures.added c.loop-fact-test.true;
      few = omega (arith, is, one, few);
      counted =
          ap (λ m. c.loop-fact.new + m) is
          ∙ count_one start now next (take c.loop-fact.fact-index c.args.facts.now) c.fact-item.result b c.loop-fact.new
          c.loop-fact.invariant.added c.in_ok-add_fact_copy_and_note_undo.ensures.added c.in_ok-add_fact_copy_and_note_undo.ensures.new c.loop-fact.invariant.counted;
      undo = c.add_fact_copy_and_note_undo.ensures.undo ∙ c.loop-fact.invariant.undo;
    }
