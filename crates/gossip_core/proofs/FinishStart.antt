-- From a world of true facts on, the events that make and deliver what a node lacks of a job give all of it.
use Rattle.std.proofs.Common.{ℕ, ◌<◌, ◌≡◌, inr, refl, subst, Bool, true, false, None, List, length}
use Rattle.catalog.specs.Entries.{Entry, IsCatalog, ids_of}
use Rattle.domains.proofs.PairLists.{Contains-filter}
use Rattle.tile_boxes.proofs.Lists.{Contains-map}
use Rattle.tile_boxes.specs.Schedules.{StoresOutputs}
use Rattle.identity.specs.declared.key.Key.{Key}
use Rattle.job.specs.Answers.{Tile}
use Rattle.job.specs.WellFormed.{IsJob}
use Rattle.held_facts.proofs.WantedTiles.{wanted_key}
use Rattle.held_facts.specs.Answers.{IsNotHeld}
use Rattle.held_facts.specs.HeldAnswers.{lacks}
use Rattle.node_state.specs.States.{retires}
use Rattle.overlap_tiles.proofs.Lists.{Contains-from_map}
use Rattle.overlap_tiles.proofs.WorkIsExact.{work_has, work_rises}
use Rattle.overlap_tiles.specs.Needs.{key_of, key_tile}
use Rattle.overlap_tiles.specs.Work.{IsWork, find_key_over_scratch_limit, is_tile_over_scratch_limit, wanted_keys, work_keys, work_tiles}
use Rattle.gossip_events.specs.declared.event.Event.{Event}
use Rattle.gossip_core.specs.Finishing.{GivesAll, IsPlanned, NoneRefused, lacked_work, makings}
use Rattle.gossip_core.specs.Networks.{Network}
use Rattle.gossip_core.specs.Steps.{Accepts, WorldWork, held}
use Rattle.gossip_core.specs.Truths.{AllTrue}
use Rattle.gossip_core.proofs.FinishAll.{Finishes, IsUnderWay, finishes}
use Rattle.gossip_core.proofs.FinishLists.{none_passes}
use Rattle.gossip_core.proofs.FinishWanted.{wanted_is_work}

module _ (u : WorldWork) (w : Network) (n j : ℕ) (entry : Entry) (inlining : List Bool) (is : IsCatalog u.jobs) (good : IsJob entry.pipeline)
    (truth : AllTrue u.jobs w)
    (keeps : (v new : Network) (e : Event) → AllTrue u.jobs v → Accepts u v e new → AllTrue u.jobs new)
    (here : n < length w.nodes) (planned : IsPlanned u n j entry inlining) (live : retires (held w n) (ids_of entry) ≡ false)
    (room : find_key_over_scratch_limit entry.pipeline inlining (lacked_work (held w n).facts entry inlining) ≡ None) where
  abbrev key : Tile → Key
  key t = key_of (ids_of entry).program entry.pipeline t

  abbrev events : List Event
  events = makings n (length w.messages) (lacked_work (held w n).facts entry inlining)

  roomy : (t : Tile) → IsWork entry.pipeline inlining t → lacks (held w n).facts (key t) ≡ true → is_tile_over_scratch_limit entry.pipeline inlining t ≡ false
  roomy t work lacked =
      none_passes (λ k. is_tile_over_scratch_limit entry.pipeline inlining (key_tile k)) (lacked_work (held w n).facts entry inlining) room (key t)
      (Contains-filter (lacks (held w n).facts) (work_keys (ids_of entry).program entry.pipeline inlining) (key t)
      (Contains-map key (work_tiles entry.pipeline inlining) t ((work_has entry.pipeline inlining t).1 work)) lacked)

  under : IsUnderWay u n j entry inlining is good planned keeps (held w n).facts roomy w (work_tiles entry.pipeline inlining)
  under = record {
    truth = truth;
    here = here;
    live = live;
    grown = λ f of h. h;
    work = λ t has. (work_has entry.pipeline inlining t).0 has;
    order = work_rises entry.pipeline inlining;
    held_or_left = λ t work. inr ((work_has entry.pipeline inlining t).1 work);
  }

  all : Finishes u n j entry inlining is good planned keeps (held w n).facts roomy w events
  all =
      finishes u n j entry inlining is good planned keeps (held w n).facts roomy (work_tiles entry.pipeline inlining) w (length w.messages)
      refl under

  pub none_refused : NoneRefused u w events
  none_refused = all.0

  pub work_given : GivesAll u w n events (work_keys (ids_of entry).program entry.pipeline inlining)
  work_given new accepted asked has =
      let from = Contains-from_map key (work_tiles entry.pipeline inlining) asked has in
      subst (λ (k : Key). ¬ IsNotHeld (held new n).facts k) from.2
      (all.1 new accepted from.0 ((work_has entry.pipeline inlining from.0).0 from.1))

  pub wanted_given : StoresOutputs entry.pipeline inlining → GivesAll u w n events (wanted_keys (ids_of entry).program entry.pipeline)
  wanted_given stores new accepted asked has =
      let of = wanted_key (ids_of entry).program entry.pipeline asked has in
      subst (λ (k : Key). ¬ IsNotHeld (held new n).facts k) of.is
      (all.1 new accepted of.tile (wanted_is_work entry.pipeline inlining of.tile good stores of.wanted))
