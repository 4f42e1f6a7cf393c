use Rattle.std.proofs.Common.{rules, ◌≡◌, ap, sym, ◌∙◌, arith, Some, None}
use Rattle.std.specs.Option.{option_copied}
use Rattle.std.specs.Prelude.{slice_get}
use Rattle.held_facts.proofs.LentLaws.{taken_more, taken_all, none_after}
use Rattle.held_facts.specs.Facts.{FactSet, holds, facts_of, with_fact}
use Rattle.held_facts.proofs.facts.HeldFacts.add_facts_of_key_from_other.Goals as goal
use Rattle.held_facts.proofs.facts.HeldFacts.add_facts_of_key_from_other.Goals.{in-Some+in_ok-clone+in_ok-hold_fact, in_default}

pub loop-n-preserved : goal.loop-n-preserved
loop-n-preserved g c f =
    let xs = facts_of c.args.other.now c.args.key.now in
    elim c.match-find_nth_fact_of_key.branch [
      | in-Some+in_ok-clone+in_ok-hold_fact w ↦
          let here : slice_get xs c.loop-n.n ≡ Some w.in-Some.fact.now = sym c.find_nth_fact_of_key.ensures ∙ ap option_copied w.in-Some.is in
          let now : c.match-find_nth_fact_of_key.self ≡ with_fact c.loop-n.self w.in-Some.fact.now = search rules in
          ap (λ (s : FactSet). holds s f) now
          ∙ taken_more c.args.self.now c.loop-n.self xs c.loop-n.n w.in-Some.fact.now here c.loop-n.invariant f
      | in_default w ↦
          let none : slice_get xs c.loop-n.n ≡ None = sym c.find_nth_fact_of_key.ensures ∙ ap option_copied w.in_default.is in
          absurd (omega (arith, none_after xs c.loop-n.n c.count_facts_of_key-n-end.result c.count_facts_of_key-n-end.ensures c.loop-n-test.true none))
    ]

pub returns : goal.returns
returns g c f = taken_all c.args.self.now c.loop-n.self c.args.other.now c.args.key.now c.loop-n.n (omega arith) c.loop-n.invariant f
