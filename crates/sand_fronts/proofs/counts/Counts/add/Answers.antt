-- To count the set changes only the planes of this tile (`adds`), and if they are spilled then, no count changes
-- (`adds_none`). The set of all places changes only one number (`adds_whole`).
use Rattle.sand_fronts.proofs.Common.{◌+◌, refl, arith, with_item, common_steps, get_or_read, bit_le, AddsSet}
use Rattle.sand_fronts.proofs.Counted.{adds_at, adds_none, adds_whole}
use Rattle.sand_fronts.proofs.Filled.{full_word}
use Rattle.sand_fronts.proofs.counts.Counts.add.Goals.{After-count_set-is_full}
use Rattle.sand_fronts.proofs.counts.Counts.add.Goals as goal

pub returns-then-set-eq18446744073709551615-clause-added : goal.returns-then-set-eq18446744073709551615-clause-added
returns-then-set-eq18446744073709551615-clause-added c =
    let whole = c.args.self.now.whole.items in
    let read = get_or_read whole c.args.k _ c.requires.tile.1 c.index_mut.ensures.value 0 in
    adds_whole c.args.self.now c.args.k c.args.set (c.index_mut.result.now + 1) c.requires.tile.1 (omega (arith, read))
    (λ p low. rw c.if-set-eq18446744073709551615.true (full_word p low))

adds : (c : After-count_set-is_full) → AddsSet c.args.k c.args.set c.args.self.now
    (record c.args.self.now { each = with_item c.args.self.now.each c.args.k c.count_set-is_full.new.recent })
adds c = adds_at c.args.self.now c.args.self.now.spilled c.args.k c.args.set _ c.requires.tile.0 refl
    (λ p low. grind (arith, common_steps, c.count_set-is_full.ensures.each p low)) (λ m p ne low. refl)

pub spill-requires-clause-bound : goal.spill-requires-clause-bound
spill-requires-clause-bound c p low =
    let more = (adds (goal.at.spill-requires-clause-bound c).After-count_set-is_full).here p low in
    omega (arith, c.requires.bound p low, bit_le c.args.set p)

pub returns-then-is_full-clause-added : goal.returns-then-is_full-clause-added
returns-then-is_full-clause-added c =
    adds_none (adds (goal.at.returns-then-is_full-clause-added c).After-count_set-is_full) c.spill.ensures.added
