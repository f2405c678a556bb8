-- The rest of this generation and the next one are together a list of all unstable sites, each once (`waiting`). So
-- the next site has 4 or more, and the next generation always has room. The topplings are legal, so the weight of the
-- pile bounds the counts (`advances`).
use Rattle.sand_settle.proofs.Common.{ℕ, List, ◌∷◌, ◌++◌, ◌≡◌, ◌+◌, ◌-◌, ◌*◌, ◌/◌, ◌<◌, ◌≤◌, ◌∙◌, refl, sym, ap, arith, length, drop, sum, get_or, append-nil, length-append, length-set, sites, at_most_sum_below, sites_limit, counted, toppled_times, Lists, front_below, lists_length, lists_of, waiting_behind, ListView, advances_on, may_topple}
use Rattle.std.proofs.Math.ListN.{set}
use Rattle.std.proofs.lemmas.List.Sums.{get_or-le-sum_by, sum_by-set}
use Rattle.sand_settle.proofs.SiteLists.{front_is_high, others_wait, turn_of}
use Rattle.sand_settle.proofs.Underway.{advance_turn, sum_falls}
use Rattle.sand_settle.proofs.queue.topple_generation.Goals.{After-item-site}
use Rattle.sand_settle.proofs.queue.topple_generation.Goals as goal

pub loop-position-init : goal.loop-position-init
loop-position-init c = record {
  heights_each = c.requires.len.0;
  counts_each = c.requires.len.1;
  advances = record { underway = λ s before. before; weight_pays = omega arith; grains_fall = omega arith };
  each_topples = omega arith;
  waiting = rw (ap (λ (l : ListView). l.items) c.clear.ensures, append-nil) c.requires.waiting;
  room = ap (λ (l : ListView). l.room) c.clear.ensures;
}

-- the site whose turn it is comes before those behind it and the next generation, and no grains have come
record Turn (c : After-item-site) : Type 0 where
  queue : Lists (sites c.args.lattice.now) (may_topple (λ j. get_or c.loop-position.heights j 0))
      (c.item-site.result ∷ (drop (c.loop-position.position + 1) c.args.generation.now.items
      ++ c.loop-position.next.items))
  inside : c.item-site.result < sites c.args.lattice.now
  few : sum c.loop-position.heights ≤ sum c.args.heights.now

turn : (c : After-item-site) → Turn c
turn c =
    let queue = turn_of (sites c.args.lattice.now) _ c.args.generation.now.items c.loop-position.next.items
    c.loop-position.position c.item-site.result c.item-site.ensures
    (omega (arith, c.len-position-end.ensures.value)) c.loop-position.invariant.waiting in
    record {
      queue = queue;
      inside = front_below _ _ _ _ queue;
      few = sum_falls _ _ c.requires.len.0 c.loop-position.invariant.heights_each c.loop-position.invariant.advances;
    }

pub offset_bounds-heights-site : goal.offset_bounds-heights-site
offset_bounds-heights-site c = omega (
  arith,
  (turn (goal.at.offset_bounds-heights-site c).After-item-site).inside,
  sites_limit c.args.lattice.now c.knows_sides.ensures,
)

pub bounds-heights-site : goal.bounds-heights-site
bounds-heights-site c =
    omega (arith, (turn (goal.at.bounds-heights-site c).After-item-site).inside, c.loop-position.invariant.heights_each)

pub spread-requires-clause-site : goal.spread-requires-clause-site
spread-requires-clause-site c = (turn (goal.at.spread-requires-clause-site c).After-item-site).inside

pub spread-requires-clause-limit : goal.spread-requires-clause-limit
spread-requires-clause-limit c =
    let at = turn (goal.at.spread-requires-clause-limit c).After-item-site in
    let parts = sum_by-set (λ x. x) c.loop-position.heights c.item-site.result
    (get_or c.loop-position.heights c.item-site.result 0
    - 4 * (get_or c.loop-position.heights c.item-site.result 0 / 4))
    0 (omega (arith, at.inside, c.loop-position.invariant.heights_each)) in
    omega (arith, at.few, c.requires.limit)

pub spread-requires-clause-room : goal.spread-requires-clause-room
spread-requires-clause-room c = omega (
  arith,
  lists_length _ _ _ c.loop-position.invariant.waiting,
  length-append (drop c.loop-position.position c.args.generation.now.items) c.loop-position.next.items,
  c.requires.room,
  c.loop-position.invariant.room,
)

pub overflow_add-counts : goal.overflow_add-counts
overflow_add-counts c =
    let at = turn (goal.at.overflow_add-counts c).After-item-site in
    omega (
      arith,
      at_most_sum_below (sites c.args.lattice.now) (λ j. get_or c.loop-position.counts j 0)
          c.item-site.result at.inside,
      get_or-le-sum_by (λ x. x) c.loop-position.heights
          c.item-site.result 0 (omega (arith, at.inside, c.loop-position.invariant.heights_each)),
      at.few,
      c.requires.limit,
      c.requires.bound,
      c.loop-position.invariant.advances.weight_pays,
    )

pub loop-position-preserved : goal.loop-position-preserved
loop-position-preserved c =
    let g = c.args.lattice.now in
    let i : ℕ = c.item-site.result in
    let h : List ℕ = c.loop-position.heights in
    let u : List ℕ = c.loop-position.counts in
    let k : ℕ = get_or h i 0 / 4 in
    let v = set u i (get_or u i 0 + k) in
    let at = turn (goal.at.loop-position-preserved c).After-item-site in
    let high = front_is_high (λ j. get_or h j 0) i at.queue in
    let each : length (set h i (get_or h i 0 - 4 * k)) ≡ sites g =
    length-set h i (get_or h i 0 - 4 * k) ∙ c.loop-position.invariant.heights_each in
    let done = toppled_times g i k h c.spread.new.heights
    at.inside c.loop-position.invariant.heights_each (omega arith) c.spread.ensures.each in
    let more = advance_turn g (λ j. get_or u j 0) (λ j. get_or h j 0) (λ j. get_or v j 0)
    (λ j. get_or c.spread.new.heights j 0) i k at.inside (omega arith)
    (λ j l. counted i k u v (omega (arith, at.inside, c.loop-position.invariant.counts_each)) refl j) done in
    let others = others_wait (sites g) h _ i c.loop-position.invariant.heights_each at.queue in
    record {
      heights_each = c.spread.auto.heights ∙ each;
      counts_each = length-set u i (get_or u i 0 + k) ∙ c.loop-position.invariant.counts_each;
      advances = advances_on c.loop-position.invariant.advances more.0;
      each_topples = omega (arith, more.1, c.loop-position.invariant.each_topples);
      waiting = lists_of _ _ _ _ each (waiting_behind c.spread.ensures.joins
          (drop (c.loop-position.position + 1) c.args.generation.now.items) (lists_of _ _ _ _ (sym each) others));
      room = c.spread.ensures.joins.room ∙ c.loop-position.invariant.room;
    }
