use Rattle.sand_lab.proofs.Common.{◌≡◌, get_or, Some, ap, ◌∙◌, arith, slice_get-get_or, get_or_from_slice_get, slice_get_within, slice_get, Receipt, receipt}
use Rattle.sand_lab.proofs.EntriesAtNumbers.{part_more, else_more}
use Rattle.sand_lab.proofs.journal.write_part.Goals as goal

pub loop-receipt-preserved : goal.loop-receipt-preserved
loop-receipt-preserved c =
    let i = c.loop-receipt.receipt-index in
    let rs = c.args.receipts.now in
    let js = c.loop-receipt.journal.items in
    let r = get_or rs i (receipt 0 0) in
    let below = c.loop-receipt-test.true in
    let here : slice_get rs i ≡ Some r = slice_get-get_or rs i (receipt 0 0) below in
    let inside = c.requires.below i (receipt 0 0) below in
    let invariant = c.loop-receipt.invariant in
    let long = invariant.len in
    record {
      len = long;
      noted = part_more c.args.dropper i rs js r here c.requires.ascends (omega (arith, inside, long)) invariant.noted;
      others = else_more c.args.dropper i rs js r here c.args.journal.now.items invariant.others;
    }

pub returns : goal.returns
returns c =
    let rs = c.args.receipts.now in
    let invariant = c.loop-receipt.invariant in
    let end = c.loop-receipt-test.false in
    record {
      len = invariant.len;
      entries = λ i r there.
          let inside = slice_get_within rs i r there in invariant.noted i r (omega (arith, inside, end)) there;
      others = λ n none. invariant.others n (λ j r before there e.
          none j (receipt 0 0) (slice_get_within rs j r there)
          (ap (λ (q : Receipt). q.number) (get_or_from_slice_get rs j r (receipt 0 0) there) ∙ e));
    }
