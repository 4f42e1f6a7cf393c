use Rattle.std.proofs.Common.{◌≡◌, take, sym}
use Rattle.std.proofs.lemmas.List.{take_more, take_all}
use Rattle.live_nodes.proofs.SeenReceipts.{cut, first_unfit, goes_more, goes_none, not_above, twice, unshown}
use Rattle.live_nodes.proofs.matching.check_and_mark_node_events_of_receipts.Goals as goal

pub loop-receipt-init : goal.loop-receipt-init
loop-receipt-init c = goes_none c.args.history.now c.args.seen.now c.requires

pub loop-receipt-preserved : goal.loop-receipt-preserved
loop-receipt-preserved c =
    let rs = c.args.receipts.now in
    let i = c.loop-receipt.receipt-index in
    let r = c.receipt-item.result in
    rw (take_more rs i r c.loop-receipt-test.true, sym c.receipt-item.is)
    (goes_more c.args.history.now (take i rs) r _ _ _ c.loop-receipt.invariant (c.is_receipt_in_history.ensures.shown.0 c.if-not-is_receipt_in_history.false)
    c.if-number-least.false c.if-seen-number.false)

pub returns-then-number-least-clause-unfit : goal.returns-then-number-least-clause-unfit
returns-then-number-least-clause-unfit c =
    let h = c.args.history.now in
    let rs = c.args.receipts.now in
    let i = c.loop-receipt.receipt-index in
    let r = c.receipt-item.result in
    let goes = c.loop-receipt.invariant in
    λ earlier later before.
    first_unfit h earlier later rs i r (cut rs i r c.loop-receipt-test.true c.receipt-item.is) (goes.seen earlier before).fit
    (not_above h earlier (take i rs) r (goes.high r.number c.if-number-least.true))

pub returns-then-not-is_receipt_in_history-clause-unfit : goal.returns-then-not-is_receipt_in_history-clause-unfit
returns-then-not-is_receipt_in_history-clause-unfit c =
    let h = c.args.history.now in
    let rs = c.args.receipts.now in
    let i = c.loop-receipt.receipt-index in
    let r = c.receipt-item.result in
    let goes = c.loop-receipt.invariant in
    λ earlier later before.
    first_unfit h earlier later rs i r (cut rs i r c.loop-receipt-test.true c.receipt-item.is) (goes.seen earlier before).fit
    (unshown h earlier (take i rs) r (λ shown. let told = c.is_receipt_in_history.ensures.shown.1 shown in let is = c.if-not-is_receipt_in_history.true in cc))

pub returns-then-seen-number-clause-unfit : goal.returns-then-seen-number-clause-unfit
returns-then-seen-number-clause-unfit c =
    let h = c.args.history.now in
    let rs = c.args.receipts.now in
    let i = c.loop-receipt.receipt-index in
    let r = c.receipt-item.result in
    let goes = c.loop-receipt.invariant in
    λ earlier later before.
    first_unfit h earlier later rs i r (cut rs i r c.loop-receipt-test.true c.receipt-item.is) (goes.seen earlier before).fit
    (twice h earlier (take i rs) r c.loop-receipt.seen (goes.seen earlier before) c.if-seen-number.true)

pub returns-clause-seen : goal.returns-clause-seen
returns-clause-seen c =
    let rs = c.args.receipts.now in
    let goes = c.loop-receipt.invariant in
    let whole : take c.loop-receipt.receipt-index rs ≡ rs = take_all _ rs c.loop-receipt-test.false in
    λ earlier before. rw (sym whole) (goes.seen earlier before)
