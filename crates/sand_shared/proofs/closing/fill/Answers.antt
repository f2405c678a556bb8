-- No two receipts have the same number, so none overwrites the site of another (`told_more`).
use Rattle.sand_shared.proofs.Common.{◌≡◌, Some, ◌∙◌, arith, slice_get, Receipt, receipt, All-from_get_or}
use Rattle.std.proofs.Common.{length-set}
use Rattle.sand_shared.proofs.ReceiptsTellHistory.{told_more}
use Rattle.sand_shared.proofs.closing.fill.Goals as goal

pub loop-receipt-preserved : goal.loop-receipt-preserved
loop-receipt-preserved c =
    let j = c.loop-receipt.receipt-index in
    let below = c.loop-receipt-test.true in
    let inv = c.loop-receipt.invariant in
    let inside = c.requires.inside j (receipt 0 0) below in
    record {
      len = length-set _ _ _ ∙ inv.len;
      told = told_more c.args.receipts.now j (receipt 0 0)
          c.loop-receipt.history.items below c.requires.once (omega arith) inv.told;
    }

pub returns-clause-tells : goal.returns-clause-tells
returns-clause-tells c =
    All-from_get_or
    (λ (r : Receipt). slice_get c.loop-receipt.history.items r.number ≡ Some r.site) c.args.receipts.now
    (receipt 0 0)
    (λ k l. c.loop-receipt.invariant.told k (omega arith))
