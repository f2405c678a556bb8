-- Between two turns the tiles from the position on are those that wait, and the kept ones before it are those to count
-- (`IsOn`): so writing a kept one disturbs none that waits. Each turn topples a new site, so the list has room
-- (`few_listed`), and the turns end (`few_topplings`).
use Rattle.sand_fronts.proofs.Common.{ℕ, ◌+◌, ◌<◌, ◌∙◌, refl, sym, ap, length, drop, arith, set, ne_eqb, length-set, length-take-le, drop_all, drop-set-lt, get_or-take, one_at, tiles, beside_at, over_rim, AtTile, tiles_of, free_of}
use Rattle.sand_fronts.proofs.OnTiles.{place_below}
use Rattle.sand_fronts.proofs.Gained.{tile_read}
use Rattle.sand_fronts.proofs.OneSite.{start_of}
use Rattle.sand_fronts.proofs.Waves.{Starts, arrived, wave_ready}
use Rattle.sand_fronts.proofs.Turns.{IsNext, turn_none, turn_first, turn_one, turn_two, turn_over, next_one, next_two, first_kept, keep_one, kept_on, none_wait, few_topplings, few_listed, none_left}
use Rattle.sand_fronts.proofs.sand.topple_turns.Goals.{After-set_of, After-item-k}
use Rattle.sand_fronts.proofs.sand.topple_turns.Goals as goal

pub set_of-requires : goal.set_of-requires
set_of-requires c =
    let low = place_below c.args.board.now.shape c.args.drop.site in
    omega (arith, c.requires.drop.place)

-- the first turn: that of the dropped site's tile
starts : (c : After-set_of) → Starts c.args.board.now.shape c.args.drop.site 1 c.args.drop.tile c.set_of.result
starts c =
    start_of c.args.board.now.shape c.args.drop.site c.args.drop.tile c.set_of.result c.requires.drop.inside
    c.requires.drop.tile (λ p low. c.set_of.ensures p low ∙ ap (λ q. one_at q p) c.requires.drop.place)

first_tile : (c : After-set_of)
    → AtTile c.args.board.now.shape c.args.drop.tile (beside_at c.args.board.now.beside.items c.args.drop.tile)
first_tile c = rw (sym c.requires.drop.tile) at (c.requires.board.beside.each c.args.drop.site c.requires.drop.inside)

pub topple_tile-requires-clause-tile : goal.topple_tile-requires-clause-tile
topple_tile-requires-clause-tile c = first_tile (goal.at.topple_tile-requires-clause-tile c).After-set_of

pub topple_tile-requires-clause-ready : goal.topple_tile-requires-clause-ready
topple_tile-requires-clause-ready c =
    let turn = turn_none (free_of c.args.board.now) c.requires.all_open c.requires.rest c.requires.drop.inside in
    let started = turn.started in
    wave_ready turn.from c.args.drop.tile c.set_of.result 1 turn.wave
    (starts (goal.at.topple_tile-requires-clause-ready c).After-set_of) (omega arith)

pub turns-init : goal.turns-init
turns-init c =
    let d = (goal.at.turns-init c).After-set_of in
    let k = c.args.drop.tile in
    let rest = c.requires.rest in
    let n = tiles c.args.board.now.shape in
    let steps = c.topple_tile.ensures.steps in
    let v = steps.visited in
    let tile = first_tile d in
    record {
      sand = c.topple_tile.ensures.sand;
      on = turn_over steps.gains (rw (c.push_if.ensures, c.clear.ensures) at c.topple_tile.ensures.joins) record {
        turn = turn_first (turn_none (free_of c.args.board.now) c.requires.all_open rest c.requires.drop.inside)
            c.requires.drop.tile (starts d) tile.each v.visits v.fits;
        waiting = none_wait n k (tiles_of c.args.sand) rest.quiet.none_due;
        all_kept = first_kept n k v.tile (tiles_of c.args.sand) rest.quiet.clear tile.inside;
        few_kept = omega arith;
        in_list = omega arith;
      };
    }

-- the tile at the position has its turn
one : (c : After-item-k)
    → IsNext c.args.board.now.shape c.args.drop.site (free_of c.args.board.now) (tiles_of c.turns.sand) c.item-k.result
    (beside_at c.args.board.now.beside.items c.item-k.result) (drop (c.turns.position + 1) c.turns.sand.list.items)
one c = next_one c.requires.board.beside c.turns.invariant.on c.item-k.ensures
    (omega (arith, c.turns-test.true, c.len.ensures.value))

pub index-requires : goal.index-requires
index-requires c =
    let at = (one (goal.at.index-requires c).After-item-k).turn.tile in
    omega (arith, at.inside, c.turns.invariant.sand.len)

pub turns-smaller : goal.turns-smaller
turns-smaller c =
    omega (arith, few_topplings c.args.board.now.shape (tiles_of c.turns.sand), c.turns.invariant.on.turn.count)

pub turns-smaller-then-position-len : goal.turns-smaller-then-position-len
turns-smaller-then-position-len c =
    omega (arith, few_topplings c.args.board.now.shape (tiles_of c.turns.sand), c.turns.invariant.on.turn.count)

-- ---- two tiles

pub index-requires-then-position-len : goal.index-requires-then-position-len
index-requires-then-position-len c =
    let t = next_two c.requires.board.beside c.turns.invariant.on c.item-k.ensures
    (omega (arith, c.if-position-len.true, c.len-in-turns.ensures.value)) c.item-other.ensures in
    omega (arith, t.two.tile.inside, c.turns.invariant.sand.len)

pub keep_if-kept-requires-clause-fits : goal.keep_if-kept-requires-clause-fits
keep_if-kept-requires-clause-fits c =
    let at = (one (goal.at.keep_if-kept-requires-clause-fits c).After-item-k).turn.tile in
    omega (arith, at.inside, c.requires.board.beside.fits)

pub keep_if-kept-requires-then-position-len-clause-fits : goal.keep_if-kept-requires-then-position-len-clause-fits
keep_if-kept-requires-then-position-len-clause-fits c =
    let t = next_two c.requires.board.beside c.turns.invariant.on c.item-k.ensures
    (omega (arith, c.if-position-len.true, c.len-in-turns.ensures.value)) c.item-other.ensures in
    omega (arith, t.two.tile.inside, c.requires.board.beside.fits)

pub topple_pair-requires : goal.topple_pair-requires
topple_pair-requires c =
    let t = next_two c.requires.board.beside c.turns.invariant.on c.item-k.ensures
    (omega (arith, c.if-position-len.true, c.len-in-turns.ensures.value)) c.item-other.ensures in
    let few = few_listed c.turns.invariant.on in
    let room = c.turns.invariant.sand.room in
    rw (c.keep_if-kept-then-position-len.ensures.list, c.keep_if-kept.ensures.list) (record {
      board = c.requires.board;
      row = c.requires.row;
      sand = record { len = c.turns.invariant.sand.len; room = room };
      different = t.different;
      tile = t.one.tile;
      other_tile = t.two.tile;
      ready = t.one.ready;
      other_ready = t.two.ready;
      room = omega (arith, length-set {A = ℕ});
    })

pub turns-preserved-then-position-len : goal.turns-preserved-then-position-len
turns-preserved-then-position-len c =
    let on = c.turns.invariant.on in
    let ts = c.turns.sand.tiles.items in
    let list = c.turns.sand.list.items in
    let k = c.item-k.result in
    let other = c.item-other.result in
    let next = c.turns.position + 2 in
    let long = c.turns.invariant.sand.len in
    let steps = c.topple_pair.ensures.steps in
    let within : c.turns.position + 1 < length list =
    omega (arith, c.if-position-len.true, c.len-in-turns.ensures.value) in
    let t = next_two c.requires.board.beside on c.item-k.ensures within c.item-other.ensures in
    let one_in = t.one.tile.inside in
    let two_in = t.two.tile.inside in
    let apart = ne_eqb other k (λ e. t.different (sym e)) in
    let few_kept = on.few_kept in
    let in_list = on.in_list in
    let kept = keep_one k steps.one.tile on.all_kept one_in (omega arith)
    (tile_read ts k c.index.result.now (omega arith) c.index.ensures) (omega arith) c.keep_if-kept.ensures.next in
    let few = kept.few in
    let both = keep_one {t = c.index-then-position-len.result.now} other steps.two.tile kept.all two_in
    (omega (arith, length-set {A = ℕ}))
    (rw apart (tile_read ts other c.index-then-position-len.result.now (omega arith) c.index-then-position-len.ensures))
    (omega arith) c.keep_if-kept-then-position-len.ensures.next in
    let few' = both.few in
    record {
      sand = c.topple_pair.ensures.sand;
      on = turn_over steps.gains
          (rw (c.keep_if-kept-then-position-len.ensures.list, c.keep_if-kept.ensures.list) at
          c.topple_pair.ensures.joins)
          record {
            turn = turn_two on.turn t steps;
            waiting = rw (
              drop-set-lt next (set list c.turns.kept k) c.keep_if-kept.result other (omega arith),
              drop-set-lt next list c.turns.kept k (omega arith),
            ) t.waiting;
            all_kept = both.all;
            few_kept = omega arith;
            in_list = omega (arith, length-set {A = ℕ});
          };
    }

-- ---- one tile

pub topple_tile-requires-else-position-len : goal.topple_tile-requires-else-position-len
topple_tile-requires-else-position-len c =
    let t = one (goal.at.topple_tile-requires-else-position-len c).After-item-k in
    let few = few_listed c.turns.invariant.on in
    let room = c.turns.invariant.sand.room in
    rw (c.keep_if-kept-else-position-len.ensures.list) (record {
      board = c.requires.board;
      row = c.requires.row;
      sand = record { len = c.turns.invariant.sand.len; room = room };
      tile = t.turn.tile;
      ready = t.turn.ready;
      room = omega (arith, length-set {A = ℕ});
    })

pub keep_if-kept-requires-else-position-len-clause-fits : goal.keep_if-kept-requires-else-position-len-clause-fits
keep_if-kept-requires-else-position-len-clause-fits c =
    let at = (one (goal.at.keep_if-kept-requires-else-position-len-clause-fits c).After-item-k).turn.tile in
    omega (arith, at.inside, c.requires.board.beside.fits)

pub turns-preserved : goal.turns-preserved
turns-preserved c =
    let on = c.turns.invariant.on in
    let list = c.turns.sand.list.items in
    let k = c.item-k.result in
    let next = c.turns.position + 1 in
    let long = c.turns.invariant.sand.len in
    let t = one (goal.at.turns-preserved c).After-item-k in
    let inside = t.turn.tile.inside in
    let steps = c.topple_tile-else-position-len.ensures.steps in
    let v = steps.visited in
    let within : c.turns.position < length list = omega (arith, c.turns-test.true, c.len.ensures.value) in
    let few_kept = on.few_kept in
    let in_list = on.in_list in
    let kept = keep_one k v.tile on.all_kept inside (omega arith)
    (tile_read c.turns.sand.tiles.items k c.index.result.now (omega arith) c.index.ensures) (omega arith)
    c.keep_if-kept-else-position-len.ensures.next in
    let few = kept.few in
    record {
      sand = c.topple_tile-else-position-len.ensures.sand;
      on = turn_over steps.gains
          (rw c.keep_if-kept-else-position-len.ensures.list at c.topple_tile-else-position-len.ensures.joins)
          record {
            turn = turn_one (over_rim (beside_at c.args.board.now.beside.items k) v.new) on.turn t.turn v.visits v.fits
                (λ m p. omega arith);
            waiting = rw (drop-set-lt next list c.turns.kept k (omega arith)) t.waiting;
            all_kept = kept.all;
            few_kept = omega arith;
            in_list = omega (arith, length-set {A = ℕ});
          };
    }

pub returns-clause-wave : goal.returns-clause-wave
returns-clause-wave c =
    let on = c.turns.invariant.on in
    let list = c.turns.sand.list.items in
    let over = drop_all c.turns.position list (omega (arith, c.turns-test.false, c.len.ensures.value)) in
    record {
      wave = arrived on.turn.wave;
      started = let started = on.turn.started in omega arith;
      none_due = none_left c.turns.sand.tiles.items (tiles c.args.board.now.shape) c.turns.invariant.sand.len
          (rw over at on.waiting);
    }

-- the kept tiles are all of the list
pub returns-clause-kept : goal.returns-clause-kept
returns-clause-kept c =
    let on = c.turns.invariant.on in
    let list = c.turns.sand.list.items in
    let few_kept = on.few_kept in
    let in_list = on.in_list in
    let long = length-take-le c.turns.kept list (omega arith) in
    rw (c.truncate.ensures, long)
    (kept_on on.all_kept (λ t less. get_or-take c.turns.kept list t 0 less) (λ m p low. refl))
