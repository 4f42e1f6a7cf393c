use Rattle.std.proofs.Common.{refl, sym, subst, ◌+◌, drop, length}
use Rattle.std.proofs.lemmas.List.{drop_all}
use Rattle.std.proofs.lemmas.Option.{slice_get_read}
use Rattle.catalog.specs.Entries.{entry_of}
use Rattle.fact_store.specs.Facts.{FactSet}
use Rattle.farm_answers.proofs.LeftTiles.{at_key, can_make, less_left}
use Rattle.farm_answers.specs.inside.Missing.{IsLeft}
use Rattle.farm_answers.proofs.plan.FarmAnswerPlan.make_missing_facts.Goals as goal

pub make_fact_of_key_from_held_facts-requires : goal.make_fact_of_key_from_held_facts-requires
make_fact_of_key_from_held_facts-requires c =
    let plan = c.args.self.now in
    let keys = c.args.keys.now in
    let i = c.loop-key.key-index in
    let key = c.key-item.result in
    let here = slice_get_read keys (length keys) i key refl c.loop-key-test.true c.key-item.is in
    can_make plan.catalog.now (entry_of plan.job.now) plan.schedule.now.inlining c.loop-key.held key (drop (i + 1) keys)
    (subst (IsLeft plan.catalog.now (entry_of plan.job.now) plan.schedule.now.inlining c.loop-key.held) (at_key keys i key here)
    c.loop-key.invariant)

pub loop-key-preserved : goal.loop-key-preserved
loop-key-preserved c =
    let plan = c.args.self.now in
    let keys = c.args.keys.now in
    let i = c.loop-key.key-index in
    let key = c.key-item.result in
    let fact = c.in_ok-fact.fact in
    let here = slice_get_read keys (length keys) i key refl c.loop-key-test.true c.key-item.is in
    let left = less_left plan.catalog.now (entry_of plan.job.now) plan.schedule.now.inlining c.loop-key.held key (drop (i + 1) keys) fact
    (subst (IsLeft plan.catalog.now (entry_of plan.job.now) plan.schedule.now.inlining c.loop-key.held) (at_key keys i key here)
    c.loop-key.invariant) c.in_ok-fact.ensures.key c.in_ok-fact.ensures.is_true in
    subst (λ (s : FactSet). IsLeft plan.catalog.now (entry_of plan.job.now) plan.schedule.now.inlining s (drop (i + 1) keys))
    (sym c.in_ok-hold_fact.ensures.added) left

pub returns : goal.returns
returns c =
    let plan = c.args.self.now in
    let keys = c.args.keys.now in
    subst (IsLeft plan.catalog.now (entry_of plan.job.now) plan.schedule.now.inlining c.loop-key.held)
    (drop_all c.loop-key.key-index keys c.loop-key-test.false) c.loop-key.invariant
