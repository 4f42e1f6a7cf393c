-- From a node that has a job's schedule to the events that let it hold the job's tiles.
use Rattle.std.proofs.Common.{ℕ, ◌≡◌, ◌<◌, Bool, false, List, Some, None, length, sym, ap, ◌∙◌, subst}
use Rattle.catalog.specs.Entries.{Entry, ids_of}
use Rattle.gossip_core.proofs.FinishStart.{none_refused, wanted_given, work_given}
use Rattle.gossip_core.proofs.TruthLaws.{accepted_true}
use Rattle.gossip_core.specs.Finishing.{GivesAll, IsPlanned, NoneRefused, lacked_work, makings}
use Rattle.gossip_core.specs.Steps.{held}
use Rattle.gossip_events.specs.declared.event.Event.{Event}
use Rattle.identity.specs.declared.key.Key.{Key}
use Rattle.held_facts.specs.Facts.{FactSet}
use Rattle.node_state.specs.States.{retires}
use Rattle.overlap_tiles.specs.Work.{find_key_over_scratch_limit, wanted_keys, work_keys}
use Rattle.worlds.specs.Finishes.{Finishes, IsFinishFault, LacksRoom}
use Rattle.worlds.specs.Worlds.{IsWorld, WorldView}
use Rattle.worlds.specs.declared.fault.FinishFault.{FinishFault}
use Rattle.worlds.specs.declared.fault.FinishFault.TheVariants as finish
use Rattle.worlds.specs.inside.Making.{IsRoomFault}

module _ (w : WorldView) (n j : ℕ) (entry : Entry) (inlining : List Bool) (s : FactSet) (planned : IsPlanned w.work n j entry inlining)
    (held_is : s ≡ (held w.network n).facts) (live : retires (held w.network n) (ids_of entry) ≡ false) where
  pub room_fault : IsFinishFault w n j finish.Memory → (fault : FinishFault) → IsRoomFault s entry inlining fault
      → IsFinishFault w n j fault
  room_fault there (finish.ScratchTooBig key) h = record {
    entry = entry;
    inlining = inlining;
    planned = planned;
    live = live;
    first = subst (λ t. find_key_over_scratch_limit entry.pipeline inlining (lacked_work t entry inlining) ≡ Some key) held_is h;
  }
  room_fault there finish.Memory h = there
  room_fault there finish.NoSuchNode h = absurd h
  room_fault there finish.NoSuchJob h = absurd h
  room_fault there finish.Retired h = absurd h

  module _ (is : IsWorld w.work w.network) (here : n < length w.network.nodes) (keys : List Key)
      (keys_are : keys ≡ lacked_work s entry inlining)
      (room : find_key_over_scratch_limit entry.pipeline inlining keys ≡ None) (events : List Event)
      (events_are : events ≡ makings n (length w.network.messages) keys) where
    lacked_is : keys ≡ lacked_work (held w.network n).facts entry inlining
    lacked_is = keys_are ∙ ap (λ t. lacked_work t entry inlining) held_is

    has_room : find_key_over_scratch_limit entry.pipeline inlining (lacked_work (held w.network n).facts entry inlining) ≡ None
    has_room = subst (λ ks. find_key_over_scratch_limit entry.pipeline inlining ks ≡ None) lacked_is room

    are : events ≡ makings n (length w.network.messages) (lacked_work (held w.network n).facts entry inlining)
    are = events_are ∙ ap (makings n (length w.network.messages)) lacked_is

    pub finishes : Finishes w n j events
    finishes = record {
      entry = entry;
      inlining = inlining;
      planned = planned;
      are = are;
      accepted = subst (NoneRefused w.work w.network) (sym are)
          (none_refused w.work w.network n j entry inlining is.work.apart (is.work.jobs j entry planned.there) is.truth
          (λ v new e. accepted_true w.work v new e is.work.apart is.work.jobs) here planned live has_room);
      work = subst (λ es. GivesAll w.work w.network n es (work_keys (ids_of entry).program entry.pipeline inlining)) (sym are)
          (work_given w.work w.network n j entry inlining is.work.apart (is.work.jobs j entry planned.there) is.truth
          (λ v new e. accepted_true w.work v new e is.work.apart is.work.jobs) here planned live has_room);
      wanted = λ stores. subst (λ es. GivesAll w.work w.network n es (wanted_keys (ids_of entry).program entry.pipeline)) (sym are)
          (wanted_given w.work w.network n j entry inlining is.work.apart (is.work.jobs j entry planned.there) is.truth
          (λ v new e. accepted_true w.work v new e is.work.apart is.work.jobs) here planned live has_room stores);
    }
