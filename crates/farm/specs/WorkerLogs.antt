-- What a worker's place shows of the calls of its log: each leaves a receipt of the worker's node, a move through a port, an answer of
-- the desk's history, or nothing.
use Rattle.std.specs.Prelude.{◌≡◌, ◌≤◌, ◌⊎◌, ℕ, Bool, true, false, Some, None, List, [], ◌∷◌, ◌++◌, Contains, length, map, set, slice_get}
use Rattle.catalog.specs.Entries.{Entry}
use Rattle.fact_audit.specs.TrueFacts.{IsTrueFact}
use Rattle.farm_turns.specs.Calls.{Call, Entered, Received, Found_empty, Took, Found_known, Found_waiting, Found_open, Claimed, Lent, Computed, Made, Put, Released, Kept, Restarted}
use Rattle.farm_work.specs.Making.{IsNotMade}
use Rattle.farm_work.specs.Readiness.{IsNoTile, IsToWait}
use Rattle.domains.specs.Sides.{Sides}
use Rattle.farm.specs.NodeCalls.{IsReceiptAdded}
use Rattle.identity.specs.declared.key.Key.{Key}
use Rattle.job.specs.Kept.{pipeline_in, program_id_in}
use Rattle.job.specs.Pipeline.{Pipeline}
use Rattle.job.specs.declared.job.Job.{Job}
use Rattle.leases.specs.Shared.{IsClaimIn, IsReleaseIn}
use Rattle.leases.specs.declared.answer.Claim.{Claim}
use Rattle.leases.specs.declared.answer.Claim.TheVariants as claim
use Rattle.leases.specs.declared.answer.Release.{Release}
use Rattle.leases.specs.declared.entry.LeaseEntry.{LeaseEntry}
use Rattle.live_nodes.specs.Ends.{IsSomeLook}
use Rattle.live_nodes.specs.Loans.{AreTrueFactsOf}
use Rattle.live_nodes.specs.declared.event.Event.{Event}
use Rattle.live_nodes.specs.declared.event.Event.TheVariants as event
use Rattle.live_nodes.specs.declared.receipt.Receipt.{Receipt}
use Rattle.netpbm.specs.Image.{Image}
use Rattle.overlap_tiles.specs.Plans.{IsTilePlan, Plan}
use Rattle.posts.specs.Parcels.{WasFull, moves}
use Rattle.posts.specs.declared.parcel.Parcel.{Parcel}
use Rattle.posts.specs.declared.parcel.ParcelMoves.{ParcelMoves}
use Rattle.tile_fact.specs.declared.fact.Fact.{Fact}
use Rattle.tile_fact.specs.declared.update.Update.TheVariants as update

-- what the workers of a farm work at: of their job the identity of its program, its pipeline and what is inlined; and the mailboxes
-- of all nodes, by their capacities
pub record WorkedFarm : Type 0 where
  pub program : List ℕ
  pub pipeline : Pipeline
  pub inlining : List Bool
  pub mailboxes : List ℕ

-- no job and no node
abbrev pub no_farm : WorkedFarm
no_farm =
    let picture : Image = record { rows = 0; cols = 0; max = 0; planes = [] } in
    let sides : Sides = record { height = 0; width = 0 } in
    let pipeline : Pipeline = record { stages = []; output = None; params = []; tables = []; picture = picture; sides = sides } in
    record { program = []; pipeline = pipeline; inlining = []; mailboxes = [] }

-- the farm works at this job
abbrev pub WorksAt : WorkedFarm → Job → List Bool → Type 0
WorksAt farm job inlining = (farm.program ≡ program_id_in job) × (farm.pipeline ≡ pipeline_in job) × (farm.inlining ≡ inlining)

-- a port: the capacity of its mailbox, and what was put and taken through it
pub record PortTrace : Type 0 where
  pub capacity : ℕ
  pub moved : ParcelMoves

-- what a place shows of the calls so far: the receipts of its node, the ports to all mailboxes, and what was seen of the desk's history
pub record Traces : Type 0 where
  pub receipts : List Receipt
  pub ports : List PortTrace
  pub seen : List LeaseEntry

-- a port through which nothing has gone
abbrev pub new_port : ℕ → PortTrace
new_port capacity = record { capacity = capacity; moved = moves [] [] }

-- no receipt and no move yet, and there is a port to the mailbox of each node; of the desk's history anything may have been seen
abbrev pub AreFresh : WorkedFarm → Traces → Type 0
AreFresh farm traces = (traces.receipts ≡ []) × (traces.ports ≡ map new_port farm.mailboxes)

-- ---- what a call leaves

-- one receipt more, of this event
abbrev pub LeavesReceipt : Traces → Traces → Event → Type 0
LeavesReceipt old new event = IsReceiptAdded old.receipts new.receipts event × (new ≡ record old { receipts = new.receipts })

-- a move through the port to a node's mailbox
abbrev pub LeavesMove : Traces → Traces → ℕ → (ParcelMoves → ParcelMoves) → Type 0
LeavesMove old new node move =
    (port : PortTrace) × (slice_get old.ports node ≡ Some port)
    × (new ≡ record old { ports = set old.ports node (record port { moved = move port.moved }) })

abbrev pub with_take : Parcel → ParcelMoves → ParcelMoves
with_take parcel before = moves before.puts (before.takes ++ parcel ∷ [])

abbrev pub with_put : Parcel → ParcelMoves → ParcelMoves
with_put parcel before = moves (before.puts ++ parcel ∷ []) before.takes

-- at one moment the mailbox of the node was full, or there is no such node
abbrev pub IsFullOrMissing : List Entry → Traces → ℕ → Type 0
IsFullOrMissing catalog traces node =
    (length traces.ports ≤ node) ⊎ ((port : PortTrace) × (slice_get traces.ports node ≡ Some port) × WasFull catalog port.capacity)

-- whether a claim gives a lease
abbrev pub gives_lease : Claim → Bool
gives_lease (claim.Granted until) = true
gives_lease (claim.Renewed until) = true
gives_lease (claim.Held by until) = false
gives_lease claim.Memory = false

-- a parcel with this fact alone
abbrev pub IsParcelOf : ℕ → Fact → Parcel → Type 0
IsParcelOf from fact parcel = (parcel.from ≡ from) × (parcel.updates.items ≡ update.Fact fact ∷ [])

-- the call leaves this of what was before
abbrev pub IsCall : List Entry → WorkedFarm → Traces → Traces → Call → Type 0
IsCall catalog farm old new (Entered worker turn) = new ≡ old
IsCall catalog farm old new (Received node updates) =
    (parcel : Parcel) × (parcel.updates.items ≡ updates) × LeavesMove old new node (with_take parcel)
IsCall catalog farm old new (Found_empty node) = new ≡ old
IsCall catalog farm old new (Took updates) = LeavesReceipt old new (event.Took updates)
IsCall catalog farm old new (Found_known key) = (new ≡ old) × IsSomeLook catalog (key ∷ []) false
IsCall catalog farm old new (Found_waiting key) =
    (new ≡ old) × IsSomeLook catalog (key ∷ []) true
    × (IsNoTile farm.pipeline farm.inlining key ⊎ IsToWait (IsSomeLook catalog) farm.program farm.pipeline farm.inlining key)
IsCall catalog farm old new (Found_open key needs) =
    (new ≡ old) × IsSomeLook catalog (key ∷ []) true
    × ((plan : Plan) × (plan.needs ≡ needs) × IsTilePlan farm.program farm.pipeline farm.inlining key.stage key.row key.col plan)
    × IsSomeLook catalog needs false
IsCall catalog farm old new (Claimed time worker key ttl leased) =
    (answer : Claim) × (gives_lease answer ≡ leased) × IsClaimIn old.seen new.seen time worker key ttl answer
    × (new ≡ record old { seen = new.seen })
IsCall catalog farm old new (Lent keys (Some facts)) =
    AreTrueFactsOf catalog keys facts × ((retired : _) × LeavesReceipt old new (event.Lent keys retired))
IsCall catalog farm old new (Lent keys None) = (new ≡ old) × ((key : Key) × Contains keys key)
IsCall catalog farm old new (Computed key facts (Some fact)) = (new ≡ old) × IsTrueFact catalog fact × (fact.key ≡ key)
IsCall catalog farm old new (Computed key facts None) = (new ≡ old) × IsNotMade catalog facts farm.inlining key
IsCall catalog farm old new (Made worker turn fact) = new ≡ old
IsCall catalog farm old new (Put node from fact) =
    ((parcel : Parcel) × IsParcelOf from fact parcel × LeavesMove old new node (with_put parcel))
    ⊎ ((new ≡ old) × IsFullOrMissing catalog old node)
IsCall catalog farm old new (Released time worker key) =
    (answer : Release) × IsReleaseIn old.seen new.seen time worker key answer × (new ≡ record old { seen = new.seen })
IsCall catalog farm old new Kept = LeavesReceipt old new event.Kept
IsCall catalog farm old new Restarted = LeavesReceipt old new event.Restarted

-- the calls of the log, one after another, leave these traces
pub data HasLog (catalog : List Entry) (farm : WorkedFarm) : Traces → List Call → Type 0 where
  no_call : (traces : Traces) → AreFresh farm traces → HasLog catalog farm traces []
  one_more : (old new : Traces) (log : List Call) (call : Call) → HasLog catalog farm old log → IsCall catalog farm old new call → HasLog catalog farm new (log ++ call ∷ [])
