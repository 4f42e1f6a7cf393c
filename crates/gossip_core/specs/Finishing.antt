-- The events that let a node hold all tiles of a job. For each tile of which it holds nothing there is a making, and the delivery
-- of what was made.
use Rattle.std.specs.Prelude.{◌≡◌, ℕ, suc, Bool, Some, List, [], ◌∷◌, filter, slice_get}
use Rattle.catalog.specs.Entries.{Entry, ids_of}
use Rattle.identity.specs.declared.key.Key.{Key}
use Rattle.held_facts.specs.Answers.{AreHeld}
use Rattle.held_facts.specs.HeldAnswers.{lacks}
use Rattle.held_facts.specs.Facts.{FactSet}
use Rattle.overlap_tiles.specs.Work.{work_keys}
use Rattle.gossip_events.specs.declared.event.Event.{Event}
use Rattle.gossip_events.specs.declared.event.Event.TheVariants.{Make, Deliver}
use Rattle.gossip_core.specs.Histories.{IsRefused}
use Rattle.gossip_core.specs.Networks.{Network}
use Rattle.gossip_core.specs.Steps.{Accepts, WorldWork, held}

-- ---- what is requested

-- job j is this one, and node n inlines these of its stages
pub record IsPlanned (u : WorldWork) (n j : ℕ) (entry : Entry) (inlining : List Bool) : Type 0 where
  pub there : slice_get u.jobs j ≡ Some entry
  pub schedules : List (List Bool)
  pub of_node : slice_get u.schedules n ≡ Some schedules
  pub of_job : slice_get schedules j ≡ Some inlining

-- the keys of the stored functions' and the accumulators' tiles of which nothing is held, in the order in which they can be made
abbrev pub lacked_work : FactSet → Entry → List Bool → List Key
lacked_work s entry inlining = filter (lacks s) (work_keys (ids_of entry).program entry.pipeline inlining)

-- a making of each key by node n and its delivery, where so many messages were sent before
abbrev pub makings : ℕ → ℕ → List Key → List Event
makings n sent [] = []
makings n sent (key ∷ keys) = Make n key ∷ Deliver n sent ∷ makings n (suc sent) keys

-- ---- what comes of it

-- one after the other, the oldest first, the events are accepted
abbrev pub AllAccepted : WorldWork → Network → List Event → Network → Type 0
AllAccepted u w [] new = new ≡ w
AllAccepted u w (e ∷ events) new = (next : Network) × Accepts u w e next × AllAccepted u next events new

-- whatever worlds the events lead to, none of them is refused, unless memory is
abbrev pub NoneRefused : WorldWork → Network → List Event → Type 0
NoneRefused u w [] = Unit {0}
NoneRefused u w (e ∷ events) = ¬ (IsRefused u w e) × ((next : Network) → Accepts u w e next → NoneRefused u next events)

-- where all of them are accepted, node n holds a fact of each of the keys
abbrev pub GivesAll : WorldWork → Network → ℕ → List Event → List Key → Type 0
GivesAll u w n events keys = (new : Network) → AllAccepted u w events new → AreHeld (held new n).facts keys
