-- The two visits are one change of the list (`visited`), and what both tiles hand over is one gain (`both`). Neither
-- tile has a due place after its visit, so neither waits any more (`pair_waits`).
use Rattle.sand_fronts.proofs.Common.{List, cond, eqb, ap, sym, ◌≡◌, ◌+◌, ◌<◌, ◌∙◌, length, refl, arith, with_items, set, length-set, with_items_is, joins_from, Tile, tile_at, over_rim, AreVisited, waits, tiles, free_of, Gets}
use Rattle.sand_fronts.proofs.Gained.{gains_from, written}
use Rattle.sand_fronts.proofs.TileLists.{gets_more, pair_waits}
use Rattle.sand_fronts.proofs.sand.Sand.topple_pair.Goals.{After-hand_over-2}
use Rattle.sand_fronts.proofs.sand.Sand.topple_pair.Goals as goal

-- both are tiles, also after the first one is written
inside : (c : After-hand_over-2) → (t : Tile) → (c.args.j < length c.args.self.now.tiles.items)
    × (c.args.k < length (set c.args.self.now.tiles.items c.args.j t))
inside c t =
    let e = length-set {A = Tile} c.args.self.now.tiles.items c.args.j t in
    let j = c.requires.tile.inside in
    let k = c.requires.other_tile.inside in
    let each = c.requires.sand.len in
    (omega (arith, j, each), omega (arith, e, k, each))

-- the tiles after the visits
abbrev after : After-hand_over-2 → List Tile
after c = (with_items c.args.self.now.tiles c.visit_two-new_one.new.tiles).items

written_all : (c : After-hand_over-2) → after c ≡ c.visit_two-new_one.new.tiles
written_all c = with_items_is c.args.self.now.tiles c.visit_two-new_one.new.tiles
    (c.visit_two-new_one.ensures.len ∙ c.as_mut_slice.ensures.len)

visited : (c : After-hand_over-2) → AreVisited c.args.self.now.tiles.items (after c) c.args.j c.args.k
    (free_of c.args.board.now c.args.j) (free_of c.args.board.now c.args.k)
    c.visit_two-new_one.result.0 c.visit_two-new_one.result.1
visited c = rw (written_all c, ← c.as_mut_slice.ensures.value, ← c.as_slice-free.ensures.value) c.visit_two-new_one.ensures.visited

-- what both have handed over
both : (c : After-hand_over-2) → Gets (free_of c.args.board.now) 8
    (λ m p. over_rim c.beside.result c.visit_two-new_one.result.0 m p
    + over_rim c.beside-2.result c.visit_two-new_one.result.1 m p)
    (record c.args.self.now { tiles = with_items c.args.self.now.tiles c.visit_two-new_one.new.tiles })
    c.hand_over-2.new.self
both c = rw (← c.as_slice-free.ensures.value)
    (gets_more _ c.hand_over.ensures c.hand_over-2.ensures (λ m p low. refl))

pub returns-clause-steps : goal.returns-clause-steps
returns-clause-steps c =
    let ts = c.args.self.now.tiles.items in
    let j = c.args.j in
    let k = c.args.k in
    let v = visited c in
    let within = inside c v.one in
    record {
      one = record {
        tile = v.one;
        new = c.visit_two-new_one.result.0;
        visits = v.visits;
        fits = omega arith;
      };
      two = record {
        tile = v.two;
        new = c.visit_two-new_one.result.1;
        visits = v.other_visits;
        fits = omega arith;
      };
      gains = rw (← c.beside.ensures, ← c.beside-2.ensures) (gains_from
          (λ m. ap (λ l. tile_at l m) v.written
          ∙ written (set ts j v.one) k m v.two within.1
          ∙ ap (λ x. cond (eqb m k) v.two x) (written ts j m v.one within.0))
          (both c).gains);
    }

pub returns-clause-joins : goal.returns-clause-joins
returns-clause-joins c =
    let v = visited c in
    let within = inside c v.one in
    let n : length (after c) ≡ tiles c.args.board.now.shape =
    ap length (written_all c) ∙ c.visit_two-new_one.ensures.len
    ∙ ap length c.as_mut_slice.ensures.value ∙ c.requires.sand.len in
    joins_from
    (λ m l. pair_waits c.args.self.now.tiles.items c.args.j c.args.k m v.one v.two within.0 within.1
    v.visits.none_due v.other_visits.none_due ∙ ap (λ l. waits (tile_at l) m) (sym v.written))
    (rw (← n) (both c).joins)
