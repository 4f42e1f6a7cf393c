-- Seats count as many calls as their receipts tell.
use Rattle.std.proofs.Common.{arith, subst, sym, ◌∙◌, refl}
use Rattle.std.proofs.lemmas.List.Elements.{All-head, All-tail}
use Rattle.std.proofs.lemmas.List.Sums.{sum_by-append}
use Rattle.std.specs.Prelude.{◌≡◌, List, [], ◌∷◌, length, sum_by}
use Rattle.live_nodes.specs.declared.event.Event.{Event}
use Rattle.live_nodes.specs.declared.receipt.Receipt.{Receipt}
use Rattle.live_nodes.proofs.LongAccounts.{as_long}
use Rattle.live_nodes.specs.Accounts.{AccountFor}
use Rattle.identity.specs.declared.key.Key.{Key}
use Rattle.fact_store.specs.Facts.{FactSet}
use Rattle.held_facts.specs.Answers.{IsLendFault}
use Rattle.held_facts.specs.declared.answers.LendFault.{LendFault}
use Rattle.held_facts.specs.declared.answers.LendFault.TheVariants.{NotHeld, Memory}
use Rattle.live_nodes.specs.Ends.{End, HaveAllReceipts, IsAsked, calls_of, receipts_of}

calls_are_receipts : (ends : List End) → HaveAllReceipts ends → sum_by length (receipts_of ends) ≡ calls_of ends
calls_are_receipts [] have = refl
calls_are_receipts (end ∷ ends) have =
    let one = All-head (λ (e : End). length e.1.items ≡ e.0) end ends have in
    let rest = calls_are_receipts ends (All-tail (λ (e : End). length e.1.items ≡ e.0) end ends have) in
    omega (
      arith,
      one,
      rest,
      sum_by-append (length {A = Receipt}) (end.1.items ∷ []) (receipts_of ends),
      sum_by-append (λ (e : End). e.0) (end ∷ []) ends,
    )

pub all_counted : (history : List Event) (ends : List End) → HaveAllReceipts ends → AccountFor history (receipts_of ends)
    → length history ≡ calls_of ends
all_counted history ends have account = as_long history (receipts_of ends) account ∙ calls_are_receipts ends have

-- a fault of a book names a key that was asked for
pub asked_of : (s : FactSet) (keys : List Key) (fault : LendFault) → IsLendFault s keys fault → IsAsked keys fault
asked_of s keys (NotHeld key) is = is.asked
asked_of s keys Memory is = tt

-- the same history and ends, under other names
pub same_account : (h shown : List Event) (ends given : List End) → shown ≡ h → ends ≡ given → AccountFor h (receipts_of ends)
    → AccountFor shown (receipts_of given)
same_account h shown ends given same_history same_ends account =
    subst (λ (es : List Event). AccountFor es (receipts_of given)) (sym same_history)
    (subst (λ (xs : List End). AccountFor h (receipts_of xs)) same_ends account)
