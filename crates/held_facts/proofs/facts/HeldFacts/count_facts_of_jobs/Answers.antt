use Rattle.std.proofs.Common.{rules, arith, ◌≡◌, ◌+◌, ap, sym, ◌∙◌, refl, Some, None}
use Rattle.std.specs.Int.{from_bool}
use Rattle.std.specs.Option.{option_copied}
use Rattle.std.specs.Prelude.{Bool, slice_get}
use Rattle.std.proofs.lemmas.Option.{slice_get_within}
use Rattle.tile_fact.specs.declared.fact.Fact.{Fact}
use Rattle.fact_store.proofs.GrowthLaws.{at_most_one}
use Rattle.fact_store.proofs.Walks.{first_fact}
use Rattle.held_facts.proofs.ListLaws.{all_counted, next_at, none_named, one_counted}
use Rattle.held_facts.specs.Facts.{facts_in, names_one}
use Rattle.held_facts.proofs.facts.HeldFacts.count_facts_of_jobs.Goals as goal

pub returns-then-is_empty : goal.returns-then-is_empty
returns-then-is_empty g c = none_named c.args.self.now c.args.jobs.now c.if-is_empty.ensures

pub loop-next-init : goal.loop-next-init
loop-next-init g c = record { counted = refl; few = omega arith; next = c.find_least_fact_of_all_keys-next.ensures ∙ first_fact c.args.self.now }

pub loop-next-smaller : goal.loop-next-smaller
loop-next-smaller g c =
    let all = facts_in c.args.self.now in
    let f = c.in-Some.fact.now in
    let here : slice_get all c.loop-next.passed ≡ Some f = sym c.loop-next.invariant.next ∙ ap option_copied c.in-Some.is in
    let one : c.in_ok-passed.passed ≡ c.loop-next.passed + 1 = search rules in
    omega (arith, one, slice_get_within all c.loop-next.passed f here)

pub loop-next-preserved : goal.loop-next-preserved
loop-next-preserved g c =
    let s = c.args.self.now in
    let p : Fact → Bool = λ f. names_one c.args.jobs.now f.key in
    let f = c.in-Some.fact.now in
    let here : slice_get (facts_in s) c.loop-next.passed ≡ Some f = sym c.loop-next.invariant.next ∙ ap option_copied c.in-Some.is in
    let one : c.in_ok-passed.passed ≡ c.loop-next.passed + 1 = search rules in
    let is : c.from-count.result ≡ from_bool (p f) =
    c.from-count.ensures ∙ ap from_bool (c.is_fact_set_key_of_jobs.ensures ∙ ap (names_one c.args.jobs.now) c.key.ensures) in
    record {
      counted = rw one (one_counted p (facts_in s) c.loop-next.passed f c.loop-next.count _ here c.loop-next.invariant.counted (ap (λ n. c.loop-next.count + n) is));
      few = omega (arith, one, c.from-count.ensures, at_most_one c.is_fact_set_key_of_jobs.result, c.loop-next.invariant.few);
      next = rw one (c.find_least_fact_above-next.ensures ∙ next_at s c.loop-next.passed f here);
    }

pub returns : goal.returns
returns g c =
    let all = facts_in c.args.self.now in
    let e : slice_get all c.loop-next.passed ≡ None = sym c.loop-next.invariant.next ∙ ap option_copied c.in_default.is in
    all_counted (λ f. names_one c.args.jobs.now f.key) all c.loop-next.passed c.loop-next.count c.loop-next.invariant.counted e
