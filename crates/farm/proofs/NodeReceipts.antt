-- The receipts of a node's workers, taken from all ends one after another.
use Rattle.std.proofs.Common.{◌≡◌, ◌<◌, ◌+◌, ◌*◌, ◌∙◌, ℕ, List, [], ◌∷◌, ◌++◌, Some, length, drop, slice_get, ap, sym, subst, arith, inl, inr}
use Rattle.std.proofs.lemmas.List.{drop-drop, length-append}
use Rattle.farm.proofs.Members.{got_more}
use Rattle.farm.specs.FarmFaults.{fault_of_close}
use Rattle.farm.specs.NodeEnds.{HaveClosed, IsClosingFault, ends_of_node}
use Rattle.farm.specs.declared.fault.FarmFault.{FarmFault}
use Rattle.farm.specs.declared.hand.WorkerReceipts.{WorkerReceipts}
use Rattle.live_nodes.specs.Accounts.{AccountFor}
use Rattle.live_nodes.specs.Ends.{End, IsSomeCloseFault, receipts_of}
use Rattle.live_nodes.specs.declared.event.Event.{Event}
use Rattle.live_nodes.specs.declared.fault.CloseFault.{CloseFault}
use Rattle.live_nodes.specs.declared.fault.CloseFault.TheVariants as closes

-- the ends after those of one node more
pub rest_after_node : {N : Type 0} (all old new : List WorkerReceipts) (ns : List N) (n : N) → old ≡ drop (2 * length ns) all → new ≡ drop 2 old
    → new ≡ drop (2 * length (ns ++ n ∷ [])) all
rest_after_node all old new ns n at next =
    let on : 2 * length ns + 2 ≡ 2 * length (ns ++ n ∷ []) = omega (arith, length-append ns (n ∷ [])) in
    next ∙ ap (drop 2) at ∙ drop-drop 2 (2 * length ns) all ∙ ap (λ k. drop k all) on

-- one node more
pub closed_more : (xs old new : List (List Event)) (x : List Event) (ends : List WorkerReceipts) (mine : List End) (node : ℕ)
    → old ≡ xs → new ≡ old ++ x ∷ [] → length xs ≡ node → mine ≡ ends_of_node ends node → AccountFor x (receipts_of mine)
    → HaveClosed xs ends → HaveClosed new ends
closed_more xs old new x ends mine node held grown long are account before k h is =
    elim (got_more xs x k h (subst (λ l. slice_get l k ≡ Some h) (grown ∙ ap (λ l. l ++ x ∷ []) held) is)) [
      | inl there ↦ before k h there
      | inr last ↦
          let at : k ≡ node = last.0 ∙ long in
          subst (λ g. AccountFor g (receipts_of (ends_of_node ends k))) last.1
          (subst (λ n. AccountFor x (receipts_of (ends_of_node ends n))) (sym at)
          (subst (λ m. AccountFor x (receipts_of m)) are account))
    ]

-- why a node does not close
pub fault_of_node : (nodes node : ℕ) (ends : List WorkerReceipts) (mine : List End) (why : CloseFault) (fault : FarmFault) → node < nodes
    → mine ≡ ends_of_node ends node → IsSomeCloseFault mine why → fault ≡ fault_of_close why → IsClosingFault nodes ends fault
fault_of_node nodes node ends mine (closes.ReceiptMismatch n) fault below are is told =
    subst (IsClosingFault nodes ends) (sym told) (node, below, subst (λ m. IsSomeCloseFault m (closes.ReceiptMismatch n)) are is)
fault_of_node nodes node ends mine closes.Memory fault below are is told = subst (IsClosingFault nodes ends) (sym told) tt
