-- The headline, put together from its parts.
use Rattle.std.proofs.Common.{ℕ, ap, sym, ◌∙◌, subst, List, Some}
use Rattle.std.proofs.lemmas.Option.{slice_get-get_or}
use Rattle.catalog.specs.Entries.{AreJobs, IsCatalog}
use Rattle.states.proofs.JoinLaws.{join_first, join_least, join_second}
use Rattle.node_state.specs.States.{State, facts_in, join, retired_in}
use Rattle.tile_fact.specs.FactFile.{fact_file}
use Rattle.gossip_events.specs.declared.event.Event.{Event}
use Rattle.gossip_events.specs.declared.event.Event.TheVariants.{Merge}
use Rattle.gossip_core.specs.Headline.{Headline, IsLeastOfBoth}
use Rattle.gossip_core.specs.Histories.{Leads}
use Rattle.gossip_core.specs.Networks.{Network}
use Rattle.gossip_core.specs.Steps.{Accepts, WorldWork, held}
use Rattle.gossip_core.proofs.AllHeld.{answers_exactly}
use Rattle.gossip_core.proofs.Following.{held_live, leads_follows, merged_held, others_held, same_takings}
use Rattle.gossip_core.proofs.TruthLaws.{worlds_true}

-- the join is the least
least_join : (s t : State) → IsLeastOfBoth s t (join s t)
least_join s t = record { first = join_first s t; second = join_second s t; least = join_least s t }

least_merge : (u : WorldWork) (w new : Network) (a b : ℕ) → Accepts u w (Merge a b) new → IsLeastOfBoth (held w a) (held w b) (held new a)
least_merge u w new a b ok =
    subst (IsLeastOfBoth (held w a) (held w b)) (sym (merged_held u w new a b ok)) (least_join (held w a) (held w b))

pub headline_of : (u : WorldWork) (size : ℕ) (h accepted : List Event) (w : Network) → IsCatalog u.jobs → AreJobs u.jobs
    → Leads u size h accepted w → Headline u w accepted
headline_of u size h accepted w catalog good leads =
    let follows = leads_follows u size h accepted w leads in
    let truth = worlds_true u size h accepted w catalog good leads in
    record {
      truth = truth;
      live = λ n. held_live accepted w n follows;
      took = follows.holds;
      keeps = follows.keeps;
      equal = λ n m same.
          let states = same_takings accepted w n m follows same in
          (states, ap (λ (s : State). fact_file (retired_in s) (facts_in s)) states);
      merging = λ a b new ok. (least_merge u w new a b ok, λ n other. others_held u w new a b n ok (λ same. other (sym same)));
      answers = λ n entry has.
          answers_exactly u.jobs entry (held w n) catalog has (truth.holds n)
          (good has.0 entry (slice_get-get_or u.jobs has.0 entry has.1 ∙ ap Some has.2)) (held_live accepted w n follows);
    }
