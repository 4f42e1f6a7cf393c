use Rattle.std.proofs.Common.{rules, ◌≡◌, ap, sym, ◌∙◌, ◌++◌, ◌∷◌, [], length, Some, None}
use Rattle.std.specs.Option.{option_copied}
use Rattle.std.specs.Prelude.{slice_get}
use Rattle.held_facts.proofs.ListLaws.{none_copied, first_next, copied_more, next_more, all_copied}
use Rattle.held_facts.specs.Facts.{facts_in}
use Rattle.held_facts.proofs.facts.HeldFacts.list_facts.Goals as goal

pub loop-next-init : goal.loop-next-init
loop-next-init g c = record {
  copied = none_copied (facts_in c.args.self.now) c.new-facts.result.items c.new-facts.ensures.items;
  next = c.find_least_fact_of_all_keys-next.ensures ∙ first_next c.args.self.now c.new-facts.result.items c.new-facts.ensures.items;
}

pub loop-next-preserved : goal.loop-next-preserved
loop-next-preserved g c =
    let s = c.args.self.now in
    let out = c.loop-next.facts.items in
    let f = c.in-Some.fact.now in
    let here : slice_get (facts_in s) (length out) ≡ Some f = sym c.loop-next.invariant.next ∙ ap option_copied c.in-Some.is in
    let grown : c.push.new.self.items ≡ out ++ f ∷ [] = search rules in
    record {
      copied = rw grown (copied_more (facts_in s) out f c.loop-next.invariant.copied here);
      next = rw grown (c.find_least_fact_above-next.ensures ∙ next_more s out f here);
    }

pub returns : goal.returns
returns g c =
    let e : slice_get (facts_in c.args.self.now) (length c.loop-next.facts.items) ≡ None =
    sym c.loop-next.invariant.next ∙ ap option_copied c.in_default.is in
    all_copied (facts_in c.args.self.now) c.loop-next.facts.items c.loop-next.invariant.copied e
