-- What a worker does in a turn, step by step, as a log of its calls. The results of its calls decide how it goes on.
use Rattle.std.specs.Prelude.{◌≡◌, ◌≤◌, ◌+◌, ◌%◌, ℕ, zero, suc, Bool, true, false, ◌&&◌, nat_eq, nat_lt, if◌then◌else◌, Some, None, List, [], ◌∷◌, ◌++◌, length, map, drop, fold}
use Rattle.identity.specs.declared.key.Key.{Key}
use Rattle.tile_fact.specs.declared.fact.Fact.{Fact}
use Rattle.tile_fact.specs.declared.update.Update.{Update}
use Rattle.tile_fact.specs.declared.update.Update.TheVariants.{Fact as update}
use Rattle.farm_turns.specs.Calls.{Call, Entered, Received, Found_empty, Took, Found_known, Found_waiting, Found_open, Claimed, Lent, Computed, Made, Put, Released, Kept, Restarted}
use Rattle.farm_turns.specs.Periods.{is_selected, count_after}
use Rattle.farm_turns.specs.declared.rules.TurnRules.{TurnRules}

-- for how many turns a key is leased
abbrev pub lease_turns : ℕ
lease_turns = 16

-- the turns in which a node keeps what it holds are the multiples of this
abbrev pub keep_period : ℕ
keep_period = 4

-- how far a worker has come: its calls so far; how many parcels it received since one was given twice; how many it would have
-- sent since one was lost; how many keys at the front it passes over, as they are known for good; and whether this number may
-- grow
pub record Progress : Type 0 where
  pub log : List Call
  pub repeated : ℕ
  pub lost : ℕ
  pub settled : ℕ
  pub settling : Bool

abbrev pub with_call : Progress → Call → Progress
with_call g call = record g { log = g.log ++ call ∷ [] }

-- ---- what is received

-- the node takes the updates of a parcel; it takes one of every `repeat` parcels twice
abbrev pub after_giving : TurnRules → Progress → List Update → Progress
after_giving rules g updates =
    let once = with_call g (Took updates) in
    record (if is_selected rules.setup.faults.repeat g.repeated then with_call once (Took updates) else once) {
      repeated = count_after rules.setup.faults.repeat g.repeated;
    }

abbrev pub after_parcel : TurnRules → Progress → List Update → Progress
after_parcel rules g updates = after_giving rules (with_call g (Received rules.home updates)) updates

-- if fewer parcels come than the capacity of the mailbox, it was found empty
abbrev pub after_parcels : TurnRules → Progress → List (List Update) → Progress
after_parcels rules g parcels =
    let all = fold (after_parcel rules) g parcels in
    if nat_lt (length parcels) rules.setup.capacity then with_call all (Found_empty rules.home) else all

-- ---- which key is picked

-- why a key is not picked: it is known; its tile is to wait; or it can be made from these but another worker has leased it
pub data PassReason : Type 0 where
  Is_known : PassReason
  Waits : PassReason
  Is_taken : (needs : List Key) → PassReason

-- a key that is passed over. While all keys so far are known, and no node restarts, it is known for good
abbrev pub after_passing : TurnRules → ℕ → Progress → Key → PassReason → Progress
after_passing rules turn g key Is_known =
    record (with_call g (Found_known key)) { settled = if g.settling then g.settled + 1 else g.settled }
after_passing rules turn g key Waits = record (with_call g (Found_waiting key)) { settling = false }
after_passing rules turn g key (Is_taken needs) =
    record (with_call (with_call g (Found_open key needs)) (Claimed turn rules.number key lease_turns false)) { settling = false }

-- the key can be made from these, and is leased to the worker
abbrev pub after_picking : TurnRules → ℕ → Progress → Key → List Key → Progress
after_picking rules turn g key needs =
    record (with_call (with_call g (Found_open key needs)) (Claimed turn rules.number key lease_turns true)) { settling = false }

-- the keys that a worker looks at
abbrev pub open_keys : TurnRules → Progress → List Key
open_keys rules g = drop g.settled rules.keys.now

-- keys are known for good from here on, where no node restarts
abbrev pub before_looking : TurnRules → Progress → Progress
before_looking rules g = record g { settling = nat_eq rules.setup.faults.restart 0 }

-- keys are passed over, in order
abbrev pub after_passing_all : TurnRules → ℕ → Progress → List (Key × PassReason) → Progress
after_passing_all rules turn g passed = fold (λ before p. after_passing rules turn before p.0 p.1) (before_looking rules g) passed

-- ---- what is made and sent

-- each node but the worker's own is sent a parcel with the fact, except that one of every `lose` is lost
abbrev pub after_sending_to : TurnRules → Fact → Progress → ℕ → Progress
after_sending_to rules fact g node =
    if nat_eq node rules.home then g else
    record (if is_selected rules.setup.faults.lose g.lost then g else with_call g (Put node rules.home fact)) {
      lost = count_after rules.setup.faults.lose g.lost;
    }

-- so are the nodes below a number, in order
abbrev pub after_sending_below : TurnRules → Fact → Progress → ℕ → Progress
after_sending_below rules fact g zero = g
after_sending_below rules fact g (suc node) = after_sending_to rules fact (after_sending_below rules fact g node) node

-- the outcome of a leased key: its needs are no longer held, or its tile is not made from their facts, or this fact is made
pub data MakeOutcome : Type 0 where
  Needs_gone : MakeOutcome
  Nothing_made : (facts : List Fact) → MakeOutcome
  Fact_made : (facts : List Fact) (fact : Fact) → MakeOutcome

abbrev pub after_making : TurnRules → ℕ → Key → List Key → Progress → MakeOutcome → Progress
after_making rules turn key needs g Needs_gone = with_call g (Lent needs None)
after_making rules turn key needs g (Nothing_made facts) =
    with_call (with_call g (Lent needs (Some facts))) (Computed key facts None)
after_making rules turn key needs g (Fact_made facts fact) =
    let computed = with_call (with_call g (Lent needs (Some facts))) (Computed key facts (Some fact)) in
    let reported = with_call (with_call computed (Made rules.number turn fact)) (Took (update fact ∷ [])) in
    after_sending_below rules fact reported rules.setup.nodes

-- what a worker finds to do: all keys are settled, or none can be made, or one is made
pub data WorkOutcome : Type 0 where
  All_settled : WorkOutcome
  No_key : (passed : List (Key × PassReason)) → WorkOutcome
  A_key : (passed : List (Key × PassReason)) (key : Key) (needs : List Key) (making : MakeOutcome) → WorkOutcome

-- the lease is given back at the end
abbrev pub after_working : TurnRules → ℕ → Progress → WorkOutcome → Progress
after_working rules turn g All_settled = g
after_working rules turn g (No_key passed) = after_passing_all rules turn g passed
after_working rules turn g (A_key passed key needs making) =
    with_call (after_making rules turn key needs (after_picking rules turn (after_passing_all rules turn g passed) key needs) making)
    (Released turn rules.number key)

abbrev pub passed_key : Key × PassReason → Key
passed_key passed = passed.0

-- the keys are passed over in order, all of them or those before the one that is picked
abbrev pub IsWorkOutcome : TurnRules → Progress → WorkOutcome → Type 0
IsWorkOutcome rules g All_settled = open_keys rules g ≡ []
IsWorkOutcome rules g (No_key passed) = open_keys rules g ≡ map passed_key passed
IsWorkOutcome rules g (A_key passed key needs making) =
    (rest : List Key) × (open_keys rules g ≡ map passed_key passed ++ key ∷ rest)

-- ---- the end of a turn

abbrev pub after_keeping : ℕ → Progress → Progress
after_keeping turn g = if nat_eq (turn % keep_period) 0 then with_call g Kept else g

abbrev pub after_restarting : TurnRules → ℕ → Progress → Progress
after_restarting rules turn g =
    if nat_lt 0 rules.setup.faults.restart && nat_eq (turn % rules.setup.faults.restart) 0 then with_call g Restarted else g

-- ---- a turn

-- the results of a worker's calls in a turn: the updates of the parcels that it receives, and what it finds to do
pub record TurnResults : Type 0 where
  pub parcels : List (List Update)
  pub finding : WorkOutcome

abbrev pub after_receiving : TurnRules → ℕ → Progress → TurnResults → Progress
after_receiving rules turn g results = after_parcels rules (with_call g (Entered rules.number turn)) results.parcels

abbrev pub after_turn : TurnRules → ℕ → Progress → TurnResults → Progress
after_turn rules turn g results =
    after_restarting rules turn (after_keeping turn (after_working rules turn (after_receiving rules turn g results) results.finding))

-- these results are possible
pub record AreTurnResults (rules : TurnRules) (turn : ℕ) (g : Progress) (results : TurnResults) : Type 0 where
  pub room : length results.parcels ≤ rules.setup.capacity
  pub in_order : IsWorkOutcome rules (after_receiving rules turn g results) results.finding
