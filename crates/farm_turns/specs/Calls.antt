-- The calls of a worker of a farm, each with its arguments and its result. A log has its oldest call first.
use Rattle.std.specs.Prelude.{ℕ, Bool, Option, List, [], ◌∷◌, ◌++◌}
use Rattle.identity.specs.declared.key.Key.{Key}
use Rattle.tile_fact.specs.declared.fact.Fact.{Fact}
use Rattle.tile_fact.specs.declared.update.Update.{Update}
use Rattle.farm_turns.specs.declared.standing.KeyReadiness.{KeyReadiness}
use Rattle.farm_turns.specs.declared.standing.KeyReadiness.TheVariants.{Known as known, Waiting as waiting, Open as open_by}

pub data Call : Type 0 where
  -- a worker enters a turn
  Entered : (worker turn : ℕ) → Call
  -- a parcel with these updates comes out of a node's mailbox, or none does
  Received : (node : ℕ) (updates : List Update) → Call
  Found_empty : (node : ℕ) → Call
  -- the worker's node takes updates
  Took : (updates : List Update) → Call
  -- by what the worker's node holds, a key is known, or its tile is to wait, or it can be made from the facts of these keys
  Found_known : (key : Key) → Call
  Found_waiting : (key : Key) → Call
  Found_open : (key : Key) (needs : List Key) → Call
  -- a key is claimed, and leased or not
  Claimed : (time worker : ℕ) (key : Key) (ttl : ℕ) (leased : Bool) → Call
  -- the worker's node lends facts of keys, or one of them is not held
  Lent : (keys : List Key) (facts : Option (List Fact)) → Call
  -- the tile of a key is computed from facts, if it can be
  Computed : (key : Key) (facts : List Fact) (made : Option Fact) → Call
  -- a worker reports that it has made a fact
  Made : (worker turn : ℕ) (fact : Fact) → Call
  -- a parcel with the fact is put into a node's mailbox, with the node that it comes from. If the mailbox is full, it is dropped
  Put : (node from : ℕ) (fact : Fact) → Call
  -- a lease is given back
  Released : (time worker : ℕ) (key : Key) → Call
  -- the worker's node keeps what it holds, or restarts
  Kept : Call
  Restarted : Call

-- what a look at a key finds, where plans need these keys
abbrev pub finding_call : {P : Type 0} → (P → List Key) → Key → KeyReadiness P → Call
finding_call needs_of key known = Found_known key
finding_call needs_of key waiting = Found_waiting key
finding_call needs_of key (open_by plan) = Found_open key (needs_of plan)

-- the call is the next one: if the old place may have a log, the new one may have it with the call at its end
abbrev pub Calls : {S : Type 0} → (S → List Call → Type 0) → S → S → Call → Type 0
Calls has_log old new call = (log : List Call) → has_log old log → has_log new (log ++ call ∷ [])
