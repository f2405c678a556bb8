-- The receipts so far and those of the rest of the list, from the next number on, are together always the same
-- (`rest`).
use Rattle.sand_shared.proofs.Common.{◌≡◌, ◌+◌, List, [], ◌∷◌, ◌++◌, drop, length, get_or, sym, ap, ◌∙◌, arith, length-append, drop_all, drop_more, append-nil, append_assoc, Receipt, receipt, receipts_from}
use Rattle.sand_shared.proofs.dropping_lists.note.Goals as goal

pub drops-preserved : goal.drops-preserved
drops-preserved c =
    let ds = c.args.drops.now in
    let k = c.drops.site-index in
    let here = drop_more ds k 0 (omega arith) in
    let inv = c.drops.invariant in
    let long = inv.len in
    let n = c.drops.next in
    let rs = c.drops.receipts.items in
    let items = c.push_reserved.ensures.items in
    record {
      next = omega arith;
      capacity = c.push_reserved.ensures.capacity ∙ inv.capacity;
      len =
          ap (λ (l : List Receipt). length l) items ∙ omega (arith, length-append rs (receipt n (get_or ds k 0) ∷ []));
      rest = ap (λ (l : List Receipt). l ++ receipts_from (n + 1) (drop (k + 1) ds)) items
          ∙ (append_assoc rs (receipt n (get_or ds k 0) ∷ []) (receipts_from (n + 1) (drop (k + 1) ds))
          ∙ (ap (λ l. rs ++ receipts_from n l) (sym here) ∙ inv.rest));
    }

pub returns-clause-items : goal.returns-clause-items
returns-clause-items c =
    let ds = c.args.drops.now in
    let none : drop c.drops.site-index ds ≡ [] = drop_all c.drops.site-index ds (omega arith) in
    sym (append-nil c.drops.receipts.items)
    ∙ (ap (λ l. c.drops.receipts.items ++ receipts_from c.drops.next l) (sym none) ∙ c.drops.invariant.rest)
