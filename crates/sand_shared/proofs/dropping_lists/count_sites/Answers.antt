-- Each count is that of the entries so far (`counted`), so none is over their number (`occurrences_small`).
use Rattle.sand_shared.proofs.Common.{◌≡◌, ℕ, ◌+◌, ◌<◌, length, get_or, set, take, sym, ◌∙◌, subst, arith, slice_index, occurrences}
use Rattle.std.proofs.Common.{length-set}
use Rattle.sand_shared.proofs.HandAfterPlacing.{read_count, counted_more, occurrences_small}
use Rattle.sand_shared.proofs.dropping_lists.count_sites.Goals as goal
use Rattle.sand_shared.proofs.dropping_lists.count_sites.Goals.{After-index_mut}

-- a read at an entry of the list finds the count so far
read : (c : After-index_mut)
    → c.index_mut.result.now ≡ slice_index c.drops.counts.items (get_or c.args.drops.now c.drops.site-index 0)
read c = read_count (length c.args.counts.now.items) c.drops.site-index _ c.drops.counts.items
    c.args.drops.now c.drops.invariant.len c.requires.inside c.drops-test.true c.index_mut.ensures.value

pub overflow_add-index_mut : goal.overflow_add-index_mut
overflow_add-index_mut c =
    let ds = c.args.drops.now in
    let k = c.drops.site-index in
    let below = c.drops-test.true in
    let value = read (goal.at.overflow_add-index_mut c).After-index_mut in
    let counted = c.drops.invariant.counted (get_or ds k 0) (c.requires.inside k 0 below) in
    let small = occurrences_small k ds (get_or ds k 0) below in omega arith

pub drops-preserved : goal.drops-preserved
drops-preserved c =
    let ds = c.args.drops.now in
    let k = c.drops.site-index in
    let below = c.drops-test.true in
    let inv = c.drops.invariant in
    let cs = c.drops.counts.items in
    let n = length c.args.counts.now.items in
    let inside = c.requires.inside k 0 below in
    record {
      len = length-set cs (get_or ds k 0) (c.index_mut.result.now + 1) ∙ inv.len;
      counted = subst (λ z. (i : ℕ) → i < n → get_or (set cs (get_or ds k 0) (z + 1)) i 0 ≡ occurrences (take (k + 1) ds) i)
          (sym (read (goal.at.drops-preserved c).After-index_mut))
          (counted_more n k cs ds below (omega arith) inv.counted);
    }
