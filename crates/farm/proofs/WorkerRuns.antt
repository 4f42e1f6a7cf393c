-- The runs of all workers, and the histories that their receipts account for.
use Rattle.std.proofs.Common.{◌≡◌, ◌∙◌, ◌*◌, ◌||◌, ℕ, zero, suc, Bool, true, false, List, [], ◌∷◌, Some, length, slice_get, refl, ap, sym, subst}
use Rattle.std.proofs.lemmas.Bool.{true≢false}
use Rattle.std.proofs.lemmas.List.Elements.{All-head, All-map, All-tail}
use Rattle.std.proofs.lemmas.List.{length-map}
use Rattle.std.specs.List.{list_any}
use Rattle.std.specs.Prelude.{All, IfOk, Result, Ok, Err, OnOk, is_err, map, replicate}
use Rattle.farm.proofs.Members.{together_at, together_length}
use Rattle.catalog.specs.Entries.{Entry}
use Rattle.farm.specs.Members.{BelongTogether, EachAt}
use Rattle.farm.specs.NodeEnds.{HaveClosed, IsClosingFault}
use Rattle.farm.specs.WorkerLogs.{HasLog, Traces, WorkedFarm, new_port}
use Rattle.farm.specs.WorkerRuns.{AreFarmHistories, AreWorkerEnds, HasWorked, HasWorkedAs, IsFarmFault, no_progress}
use Rattle.farm.specs.declared.fault.FarmFault.{FarmFault}
use Rattle.farm.specs.declared.fault.FarmFault.TheVariants.{SpawnFailed, Memory, Close}
use Rattle.farm.specs.declared.hand.WorkerReceipts.{WorkerReceipts}
use Rattle.farm_setup.specs.declared.setup.FarmSetup.{FarmSetup}
use Rattle.farm_turns.specs.Calls.{Call}
use Rattle.farm_turns.specs.Shifts.{GoesThrough, HasRun}
use Rattle.farm_turns.specs.declared.counts.TurnCounts.{TurnCounts}
use Rattle.farm_turns.specs.declared.rules.TurnRules.{TurnRules}
use Rattle.identity.specs.declared.key.Key.{Key}
use Rattle.live_nodes.specs.declared.event.Event.{Event}
use Rattle.posts.specs.Parcels.{moves}
use Rattle.posts.specs.declared.parcel.ParcelMoves.{ParcelMoves}

-- what two clauses at success say together
pub of_both : {X E : Type 0} (r : Result X E) (P Q S : X → Type 0) → ((x : X) → P x → Q x → S x) → IfOk r P → IfOk r Q → IfOk r S
of_both (Ok x) P Q S both p q = both x p q
of_both (Err e) P Q S both p q = tt

-- ---- one worker

-- what holds at success holds where there is no error
pub where_no_error : {X E : Type 0} {P : Type 0} (r : Result X E) → is_err r ≡ false → OnOk r P → P
where_no_error (Ok x) none holds = holds
where_no_error (Err e) none holds = absurd (true≢false none)

-- a worker that has run from its first turn on, at a place that shows this
pub run_worked : {S : Type 0} (has_log : S → List Call → Type 0) (place : S) (counts : TurnCounts) (now rules : TurnRules) (catalog : List Entry) (farm : WorkedFarm)
    (traces : Traces) → now ≡ rules → ((log : List Call) → has_log place log → HasLog catalog farm traces log)
    → HasRun has_log place counts now now.setup.turns no_progress → HasWorked catalog farm rules traces.receipts
run_worked has_log place counts now rules catalog farm traces same shows run =
    record {
      after = run.after;
      through = subst (λ (r : TurnRules). GoesThrough r no_progress r.setup.turns run.after) same run.through;
      traces = traces;
      log = shows run.after.log run.at.log;
      receipts = refl;
    }

-- ---- all workers

-- new ports to mailboxes of one capacity
pub new_ports : {P Q : Type 0} (post : P → Q) (size : Q → ℕ) (moved : P → ParcelMoves) (capacity : ℕ) (ports : List P)
    → All (λ p. moved p ≡ moves [] []) ports → All (λ q. size q ≡ capacity) (map post ports)
    → map (λ p. record { capacity = size (post p); moved = moved p }) ports ≡ map new_port (replicate (length (map post ports)) capacity)
new_ports post size moved capacity [] fresh sizes = refl
new_ports post size moved capacity (p ∷ ports) fresh sizes =
    let one : size (post p) ≡ capacity = All-head (λ q. size q ≡ capacity) (post p) (map post ports) sizes in
    let none : moved p ≡ moves [] [] = All-head (λ q. moved q ≡ moves [] []) p ports fresh in
    let rest = new_ports post size moved capacity ports (All-tail (λ q. moved q ≡ moves [] []) p ports fresh)
    (All-tail (λ q. size q ≡ capacity) (post p) (map post ports) sizes) in
    rw (one, none, rest) refl

-- so are those of a worker, one to the mailbox of each node
pub new_ports_to_nodes : {P N Q : Type 0} (post : P → Q) (post_of : N → Q) (size : Q → ℕ) (moved : P → ParcelMoves) (capacity count : ℕ)
    (ports : List P) (nodes : List N) → All (λ p. moved p ≡ moves [] []) ports → map post ports ≡ map post_of nodes
    → All (λ n. size (post_of n) ≡ capacity) nodes → length nodes ≡ count
    → map (λ p. record { capacity = size (post p); moved = moved p }) ports ≡ map new_port (replicate count capacity)
new_ports_to_nodes post post_of size moved capacity count ports nodes fresh same sizes many =
    new_ports post size moved capacity ports fresh
    (subst (All (λ q. size q ≡ capacity)) (sym same) (All-map (λ q. size q ≡ capacity) post_of nodes sizes))
    ∙ ap (λ (n : ℕ). map new_port (replicate n capacity)) (ap length same ∙ length-map nodes post_of ∙ many)

-- where none passes a test, the one at a place does not
none_at : {X : Type 0} (p : X → Bool) (xs : List X) (k : ℕ) (x : X) → list_any p xs ≡ false → slice_get xs k ≡ Some x → p x ≡ false
none_at p [] k x none is = absurd cc
none_at p (y ∷ xs) zero x none is = let same : y ≡ x = cc in subst (λ z. p z ≡ false) same (left (p y) (list_any p xs) none)
  where
    left : (a b : Bool) → (a || b) ≡ false → a ≡ false
    left false b is = refl
    left true b is = is
none_at p (y ∷ xs) (suc k) x none is = none_at p xs k x (right (p y) (list_any p xs) none) is
  where
    right : (a b : Bool) → (a || b) ≡ false → b ≡ false
    right false b is = is
    right true b is = absurd (true≢false is)

-- the ends of all workers
pub all_ended : {W : Type 0} (catalog : List Entry) (farm : WorkedFarm) (keys : List Key) (setup : FarmSetup) (is_new : ℕ → W → Type 0)
    (may_end : W → WorkerReceipts → Type 0)
    → ((number : ℕ) (worker : W) (end : WorkerReceipts) → is_new number worker → may_end worker end → end.memory ≡ false
    → HasWorkedAs catalog farm keys setup number end.receipts.items)
    → (workers : List W) (ends : List WorkerReceipts) → EachAt is_new workers → BelongTogether may_end workers ends
    → length workers ≡ 2 * setup.nodes → AreWorkerEnds catalog farm keys setup ends
all_ended catalog farm keys setup is_new may_end step workers ends new together count =
    record {
      count = together_length may_end workers ends together ∙ count;
      worked = λ number end there none.
          let of = together_at may_end workers ends together number end there in
          step number of.0 end (new number of.0 of.1) of.2 none;
    }

-- all workers have gone through all their turns
pub all_worked : (catalog : List Entry) (farm : WorkedFarm) (keys : List Key) (setup : FarmSetup) (ends : List WorkerReceipts)
    (histories : List (List Event)) → AreWorkerEnds catalog farm keys setup ends → list_any (λ end. end.memory) ends ≡ false
    → HaveClosed histories ends → AreFarmHistories catalog farm keys setup histories
all_worked catalog farm keys setup ends histories ended none closed =
    record {
      ends = ends;
      count = ended.count;
      worked = λ number end there.
          ended.worked number end there (none_at (λ (e : WorkerReceipts). e.memory) ends number end none there);
      closed = closed;
    }

-- why nodes do not close
pub not_closed : (catalog : List Entry) (farm : WorkedFarm) (keys : List Key) (setup : FarmSetup) (ends : List WorkerReceipts) (nodes : ℕ)
    → AreWorkerEnds catalog farm keys setup ends → nodes ≡ setup.nodes → (fault : FarmFault) → IsClosingFault nodes ends fault
    → IsFarmFault catalog farm keys setup fault
not_closed catalog farm keys setup ends nodes ended many (SpawnFailed refusal) is = absurd is
not_closed catalog farm keys setup ends nodes ended many Memory is = tt
not_closed catalog farm keys setup ends nodes ended many (Close refusal) is =
    (ends, ended, subst (λ (n : ℕ). IsClosingFault n ends (Close refusal)) many is)
