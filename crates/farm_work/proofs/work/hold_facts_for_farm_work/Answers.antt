use Rattle.std.proofs.Common.{rules, ◌≡◌, ◌+◌, ◌∷◌, ◌∙◌, ap, refl, sym, subst, drop, length, List}
use Rattle.std.proofs.lemmas.List.{drop_more}
use Rattle.std.proofs.lemmas.Option.{slice_get_read}
use Rattle.std.specs.Prelude.{fold}
use Rattle.fact_store.specs.Facts.{FactSet, with_fact}
use Rattle.held_facts.specs.HeldFacts.{HoldsTrueFacts}
use Rattle.tile_fact.specs.declared.fact.Fact.{Fact}
use Rattle.farm_work.proofs.TrueFacts.{none_true, one_more_true, true_at}
use Rattle.farm_work.proofs.work.hold_facts_for_farm_work.Goals as goal

pub loop-fact-init : goal.loop-fact-init
loop-fact-init c =
    let none = c.new-held.ensures in
    record {
      made = ap (λ (s : FactSet). fold with_fact s c.args.facts.now) none;
      truth = λ catalog all. subst (HoldsTrueFacts catalog) (sym none) (none_true catalog);
    }

pub loop-fact-preserved : goal.loop-fact-preserved
loop-fact-preserved c =
    let facts = c.args.facts.now in
    let i = c.loop-fact.fact-index in
    let fact = c.fact-item.result in
    let held = c.loop-fact.held in
    let here = slice_get_read facts (length facts) i fact refl c.loop-fact-test.true c.fact-item.is in
    let added : c.hold_fact.new.self ≡ with_fact held fact = search rules in
    let rest : drop i facts ≡ fact ∷ drop (i + 1) facts =
    drop_more facts i fact c.loop-fact-test.true ∙ ap (λ (f : Fact). f ∷ drop (i + 1) facts) (sym c.fact-item.is) in
    record {
      made = ap (λ (s : FactSet). fold with_fact s (drop (i + 1) facts)) added
          ∙ sym (ap (λ (fs : List Fact). fold with_fact held fs) rest) ∙ c.loop-fact.invariant.made;
      truth = λ catalog all. subst (HoldsTrueFacts catalog) (sym added)
          (one_more_true catalog held fact (true_at catalog facts i fact all here) (c.loop-fact.invariant.truth catalog all));
    }
