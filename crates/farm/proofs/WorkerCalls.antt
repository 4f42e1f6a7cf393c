-- A call of a worker more, by what it leaves.
use Rattle.std.proofs.Common.{◌≡◌, ◌∙◌, ◌<◌, ℕ, List, [], ◌∷◌, ◌++◌, Some, inl, inr, length, map, get_or, refl, ap, sym, subst}
use Rattle.std.proofs.lemmas.Bool.{true≢false}
use Rattle.std.proofs.lemmas.List.{map-set}
use Rattle.std.proofs.Math.Seq.{map-set_same}
use Rattle.std.specs.declared.alloc.AllocError.{AllocError}
use Rattle.std.specs.Prelude.{◌≢◌, Bool, true, Contains, Err, IfErr, IfNone, IfOk, IfSome, None, Ok, OnOk, Option, Result, set}
use Rattle.farm.proofs.Members.{made_at}
use Rattle.catalog.specs.Entries.{Entry}
use Rattle.fact_audit.specs.TrueFacts.{IsTrueFact}
use Rattle.farm.specs.NodeCalls.{IsReceiptAdded}
use Rattle.farm.specs.WorkerLogs.{gives_lease, HasLog, IsCall, IsParcelOf, LeavesMove, LeavesReceipt, PortTrace, Traces, WorkedFarm, one_more, with_put}
use Rattle.farm_turns.specs.Calls.{Call, Computed, Lent, Put, finding_call}
use Rattle.farm_turns.specs.declared.standing.KeyReadiness.{KeyReadiness}
use Rattle.farm_turns.specs.declared.standing.KeyReadiness.TheVariants.{Known, Waiting, Open}
use Rattle.farm_work.specs.Making.{IsNotMade}
use Rattle.farm_work.specs.Readiness.{IsReadiness}
use Rattle.identity.specs.declared.key.Key.{Key}
use Rattle.job.specs.Pipeline.{Pipeline}
use Rattle.leases.specs.declared.answer.Claim.{Claim}
use Rattle.leases.specs.declared.answer.Claim.TheVariants.{Memory}
use Rattle.leases.specs.declared.entry.LeaseEntry.{LeaseEntry}
use Rattle.held_facts.specs.declared.answers.LendFault.{LendFault}
use Rattle.held_facts.specs.declared.answers.LendFault.TheVariants.{NotHeld}
use Rattle.live_nodes.specs.Ends.{IsAsked, IsSomeLook}
use Rattle.live_nodes.specs.Loans.{AreTrueFactsOf}
use Rattle.live_nodes.specs.declared.event.Event.TheVariants as event
use Rattle.live_nodes.specs.declared.receipt.Receipt.{Receipt}
use Rattle.overlap_tiles.specs.Plans.{Plan}
use Rattle.posts.specs.Parcels.{WasFull}
use Rattle.posts.specs.declared.parcel.Parcel.{Parcel}
use Rattle.posts.specs.declared.parcel.ParcelMoves.{ParcelMoves}
use Rattle.tile_fact.specs.declared.fact.Fact.{Fact}
use Rattle.tile_fact.specs.declared.update.Update.{Update}

-- the log goes on, at a place that works at its farm's job
pub goes_on : {W : Type 0} {catalog : List Entry} {farm : WorkedFarm} {old new : Traces} (call : Call) → (W → IsCall catalog farm old new call)
    → (log : List Call) → W × HasLog catalog farm old log → W × HasLog catalog farm new (log ++ call ∷ [])
goes_on {old} {new} call is log before = (before.0, one_more old new log call before.1 (is before.0))

module _ {P : Type 0} (trace : P → PortTrace) (receipts : List Receipt) (seen : List LeaseEntry) where
  abbrev pub shown : List P → Traces
  shown ports = record { receipts = receipts; ports = map trace ports; seen = seen }

  abbrev with_ports : List PortTrace → Traces
  with_ports all = record { receipts = receipts; ports = all; seen = seen }

  -- something goes through a port
  pub moves_on : (ports : List P) (i node : ℕ) (p q : P) (move : ParcelMoves → ParcelMoves) → i ≡ node → i < length ports → p ≡ get_or ports i p
      → (trace q).capacity ≡ (trace p).capacity → (trace q).moved ≡ move (trace p).moved → LeavesMove (shown ports) (shown (set ports i q)) node move
  moves_on ports i node p q move at within is same moved =
      let became : trace q ≡ record (trace p) { moved = move (trace p).moved } =
      ap (λ (c : ℕ). record { capacity = c; moved = (trace q).moved }) same
      ∙ ap (λ (m : ParcelMoves). record { capacity = (trace p).capacity; moved = m }) moved in (
        trace p,
        made_at trace ports i node p at within is,
        ap with_ports (map-set trace ports i q ∙ ap (λ (k : ℕ). set (map trace ports) k (trace q)) at ∙ ap (set (map trace ports) node) became),
      )

  -- nothing does
  pub stays : (ports : List P) (i : ℕ) (p q : P) → p ≡ get_or ports i p → (trace q).capacity ≡ (trace p).capacity
      → (trace q).moved ≡ (trace p).moved → shown (set ports i q) ≡ shown ports
  stays ports i p q is same unmoved =
      let alike : trace q ≡ trace p =
      ap (λ (c : ℕ). record { capacity = c; moved = (trace q).moved }) same
      ∙ ap (λ (m : ParcelMoves). record { capacity = (trace p).capacity; moved = m }) unmoved in
      ap with_ports (map-set_same trace ports i q p (alike ∙ ap trace is))

  -- a parcel is put, or the mailbox was full
  pub puts : (catalog : List Entry) (farm : WorkedFarm) (ports : List P) (i node from : ℕ) (fact : Fact) (p q : P) (parcel : Parcel) (r : Result (Unit {0}) Parcel)
      → i ≡ node → i < length ports → p ≡ get_or ports i p → (trace q).capacity ≡ (trace p).capacity
      → OnOk r ((trace q).moved ≡ with_put parcel (trace p).moved) → IfErr r (λ _. (trace q).moved ≡ (trace p).moved)
      → IfErr r (λ _. WasFull catalog (trace p).capacity) → IsParcelOf from fact parcel
      → IsCall catalog farm (shown ports) (shown (set ports i q)) (Put node from fact)
  puts catalog farm ports i node from fact p q parcel (Ok u) at within is same put none full one =
      inl (parcel, one, moves_on ports i node p q (with_put parcel) at within is same put)
  puts catalog farm ports i node from fact p q parcel (Err back) at within is same put none full one =
      inr (stays ports i p q is same none, inr (trace p, made_at trace ports i node p at within is, full))

-- a claim that gives a lease had memory
pub leased_with_memory : (answer : Claim) → gives_lease answer ≡ true → answer ≢ Memory
leased_with_memory answer leased none = true≢false (sym leased ∙ ap gives_lease none)

-- these updates are taken
pub takes : (old new : List Receipt) (given updates : List Update) → given ≡ updates → IsReceiptAdded old new (event.Took given)
    → IsReceiptAdded old new (event.Took updates)
takes old new given updates same added = subst (λ (us : List Update). IsReceiptAdded old new (event.Took us)) same added

-- facts of these keys are lent, or one is not held
pub lends : (catalog : List Entry) (farm : WorkedFarm) (old new : Traces) (asked keys : List Key) (facts : List Fact) → asked ≡ keys
    → AreTrueFactsOf catalog asked facts → ((retired : _) × LeavesReceipt old new (event.Lent asked retired))
    → IsCall catalog farm old new (Lent keys (Some facts))
lends catalog farm old new asked keys facts same are left =
    subst (λ (ks : List Key). IsCall catalog farm old new (Lent ks (Some facts))) same (are, left)

pub lends_none : (catalog : List Entry) (farm : WorkedFarm) (old new : Traces) (asked keys : List Key) (fault : LendFault) (key : Key) → asked ≡ keys
    → IsAsked asked fault → fault ≡ NotHeld key → new ≡ old → IsCall catalog farm old new (Lent keys None)
lends_none catalog farm old new asked keys fault key same is fits unmoved =
    (unmoved, (key, subst (λ (ks : List Key). Contains ks key) same (subst (IsAsked asked) fits is)))

-- what a look at a key finds
pub finds : (catalog : List Entry) (farm : WorkedFarm) (traces : Traces) (program : List ℕ) (pipeline : Pipeline) (inlining : List Bool) (key : Key)
    (standing : KeyReadiness Plan) → (farm.program ≡ program) × (farm.pipeline ≡ pipeline) × (farm.inlining ≡ inlining)
    → IsReadiness (IsSomeLook catalog) program pipeline inlining key standing
    → IsCall catalog farm traces traces (finding_call (λ (plan : Plan). plan.needs) key standing)
finds catalog farm traces program pipeline inlining key standing works ready =
    found standing (subst (λ (p : List ℕ). IsReadiness (IsSomeLook catalog) p farm.pipeline farm.inlining key standing) (sym works.0)
    (subst (λ (p : Pipeline). IsReadiness (IsSomeLook catalog) program p farm.inlining key standing) (sym works.1)
    (subst (λ (l : List Bool). IsReadiness (IsSomeLook catalog) program pipeline l key standing) (sym works.2) ready)))
  where
    found : (standing : KeyReadiness Plan) → IsReadiness (IsSomeLook catalog) farm.program farm.pipeline farm.inlining key standing
        → IsCall catalog farm traces traces (finding_call (λ (plan : Plan). plan.needs) key standing)
    found Known ready = (refl, ready)
    found Waiting ready = (refl, ready.0, ready.1)
    found (Open plan) ready = (refl, ready.0, (plan, refl, ready.1), ready.2)

-- what is computed of lent facts
pub computes : (catalog : List Entry) (farm : WorkedFarm) (traces : Traces) (inlining : List Bool) (key : Key) (facts : List Fact)
    (r : Result (Option Fact) AllocError) → IfOk r (λ made. IfSome made (IsTrueFact catalog)) → IfOk r (λ made. IfSome made (λ fact. fact.key ≡ key))
    → IfOk r (λ made. IfNone made (IsNotMade catalog facts inlining key))
    → IfOk r (λ made. farm.inlining ≡ inlining → IsCall catalog farm traces traces (Computed key facts made))
computes catalog farm traces inlining key facts (Ok (Some fact)) right its none = λ same. (refl, right, its)
computes catalog farm traces inlining key facts (Ok None) right its none =
    λ same. (refl, subst (λ (l : List Bool). IsNotMade catalog facts l key) (sym same) none)
computes catalog farm traces inlining key facts (Err e) right its none = tt
