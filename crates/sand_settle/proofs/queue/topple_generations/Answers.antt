-- If no site waits, the pile is stable, and legal topplings that lead there are the least (`underway_end`). Each turn
-- is a toppling at least, so no more is spent of the budget than sites topple (`spent`): less than 2^54, by the weight
-- of the start (`few_at_first`).
use Rattle.sand_settle.proofs.Common.{ℕ, ◌≡◌, ◌+◌, ◌*◌, ◌^◌, ◌<◌, ◌∙◌, [], ap, arith, length, get_or, nil_from_length, sites, topplings, weight, lists_of, underway_start, underway_end, advances_on, ListView}
use Rattle.sand_settle.proofs.SiteLists.{all_low}
use Rattle.sand_settle.proofs.Underway.{sum_falls, few_at_first, zero_at}
use Rattle.sand_settle.proofs.queue.topple_generations.Goals.{After-fill}
use Rattle.sand_settle.proofs.queue.topple_generations.Goals as goal

uncounted : (c : After-fill) → (j : ℕ) → get_or c.fill.new.self j 0 ≡ 0
uncounted c j = zero_at (length c.args.counts.now) j _ (c.fill.ensures.after (λ y e. e))

-- the weight of the start bounds the topplings to come
pays : (c : After-fill) → 2 * topplings c.args.lattice.now (λ j. get_or c.fill.new.self j 0)
    + weight c.args.lattice.now (λ j. get_or c.args.heights.now j 0) < 2 ^ 55
pays c = few_at_first c.args.lattice.now (λ j. get_or c.fill.new.self j 0) c.args.heights.now
    c.requires.heights_each c.requires.limit (uncounted c)

pub generations-init : goal.generations-init
generations-init c = record {
  heights_each = c.requires.heights_each;
  counts_each = c.fill.ensures.len ∙ c.requires.counts_each;
  spent = omega arith;
  advances = record { underway = λ s before. before; weight_pays = omega arith; grains_fall = omega arith };
  waiting = lists_of _ _ _ _ c.requires.heights_each c.list_unstable.ensures.waiting;
  generation_room = omega (arith, c.list_unstable.ensures.room, c.requires.generation_room);
  next_room = c.requires.next_room;
}

pub topple_generation-requires-clause-limit : goal.topple_generation-requires-clause-limit
topple_generation-requires-clause-limit c = omega (
  arith,
  sum_falls _ _ c.requires.heights_each c.generations.invariant.heights_each c.generations.invariant.advances,
  c.requires.limit,
)

pub topple_generation-requires-clause-bound : goal.topple_generation-requires-clause-bound
topple_generation-requires-clause-bound c =
    let first = pays (goal.at.topple_generation-requires-clause-bound c).After-fill in
    omega (arith, c.generations.invariant.advances.weight_pays)

pub generations-preserved : goal.generations-preserved
generations-preserved c = record {
  heights_each = omega (arith, c.generations.invariant.heights_each, c.topple_generation.auto.heights);
  counts_each = omega (arith, c.generations.invariant.counts_each, c.topple_generation.auto.counts);
  spent = omega (arith, c.generations.invariant.spent, c.topple_generation.ensures.each_topples);
  advances = advances_on c.generations.invariant.advances c.topple_generation.ensures.advances;
  waiting = rw (ap (λ (l : ListView). l.items) c.swap.ensures.x_after) c.topple_generation.ensures.waiting;
  generation_room = omega (
    arith,
    ap (λ (l : ListView). l.room) c.swap.ensures.x_after,
    c.topple_generation.ensures.room,
    c.generations.invariant.next_room,
  );
  next_room =
      omega (arith, ap (λ (l : ListView). l.room) c.swap.ensures.y_after, c.generations.invariant.generation_room);
}

pub returns-clause-settled : goal.returns-clause-settled
returns-clause-settled c _ =
    let none : c.generations.generation.items ≡ [] =
    nil_from_length c.generations.generation.items (omega (arith, c.len.ensures.value)) in
    let waiting = rw none at c.generations.invariant.waiting in
    let counts = uncounted (goal.at.returns-clause-settled c).After-fill in
    underway_end c.args.lattice.now _ _ _
    (c.generations.invariant.advances.underway _ (underway_start c.args.lattice.now _ _ (λ j l. counts j)))
    (all_low (sites c.args.lattice.now) (λ j. get_or c.generations.heights j 0) waiting)

pub returns-then-left-eq0-clause-ends : goal.returns-then-left-eq0-clause-ends
returns-then-left-eq0-clause-ends c many =
    let first = pays (goal.at.returns-then-left-eq0-clause-ends c).After-fill in
    let later = c.generations.invariant.advances.weight_pays in
    absurd (omega (arith, c.generations.invariant.spent, c.if-left-eq0.true))
