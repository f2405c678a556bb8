-- If the site is not 0 in the planes after the grain, it had fewer than 3, and nothing topples (`few_before`). If it
-- is 0, it has 4: taken out of the free places, it is at rest for the waves, which settle the heights with the grain
-- (`due_heights`). Then its tile's word is put back.
use Rattle.sand_fronts.proofs.Common.{sym, ◌≡◌, ◌+◌, ◌∙◌, refl, ap, arith, bit_xor, set, length-set, one_at, settled_same, Tile, tile_of, place_of, tile_at, heights_before, heights_on, tiles_of, counts_of, marks_of, grown}
use Rattle.sand_fronts.proofs.OnTiles.{height_low}
use Rattle.sand_fronts.proofs.Boards.{board_with, sand_with}
use Rattle.sand_fronts.proofs.Counted.{marked_none}
use Rattle.sand_fronts.proofs.ManyWaves.{none_grown, none_lost, none_counted}
use Rattle.sand_fronts.proofs.Marked.{marked_word}
use Rattle.sand_fronts.proofs.OneSite.{height_read}
use Rattle.sand_fronts.proofs.WaveSizes.{has_none, has_same}
use Rattle.sand_fronts.proofs.OneGrain.{IsWordOf, without, GetsGrain, few_before, grain_added, calm_quiet, calm_settled, due_heights, taken_out, put_back}
use Rattle.sand_fronts.proofs.tiled_pile.topple_grain.Goals.{After-receive, After-height_at, After-index-whole}
use Rattle.sand_fronts.proofs.tiled_pile.topple_grain.Goals as goal

-- the word of the site's tile
word_of : (c : After-index-whole) → IsWordOf c.args.board.now.shape c.args.site c.find-tile.result.0
    c.set_of-grain.result c.index-whole.result.now c.args.board.now.free.items
word_of c = record {
  place = record {
    site_inside = c.requires.site;
    is = c.find-tile.ensures.tile;
    one = λ p low. c.set_of-grain.ensures p low ∙ ap (λ q. one_at q p) c.find-tile.ensures.place;
  };
  within = omega (arith, c.find-tile.ensures.inside.0, c.requires.pile.board.free_each);
  read = c.index-whole.ensures;
  all = c.requires.pile.all_open;
}

-- the tile of the site gets the grain
gets : (c : After-receive) → GetsGrain c.args.board.now.shape c.args.site c.args.sand.now.tiles.items
    c.find-tile.result.0 c.set_of-grain.result (bit_xor c.index-whole.result.now c.set_of-grain.result)
    c.index_mut.result.now c.receive.new.tile
gets c =
    let word = word_of (goal.at.After-receive c).After-index-whole in
    record {
      place = word.place;
      inside = omega (arith, c.find-tile.ensures.inside.0, c.requires.pile.sand.len);
      read = c.index_mut.ensures.value;
      held = λ p low. (without word p low).1;
      receives = c.receive.ensures;
      quiet = c.requires.pile.quiet;
    }

-- the height of the site
height_is : (c : After-height_at) → c.height_at.result ≡ heights_on c.args.board.now.shape
    (tile_at (set c.args.sand.now.tiles.items c.find-tile.result.0 c.receive.new.tile)) c.args.site
height_is c = height_read c.args.board.now.shape c.args.site _
    (
    let set' = length-set {A = Tile} c.args.sand.now.tiles.items c.find-tile.result.0 c.receive.new.tile in
    omega (arith, c.find-tile.ensures.inside.0, c.requires.pile.sand.len))
    c.index.ensures c.find-tile.ensures.tile c.find-tile.ensures.place c.height_at.ensures

pub returns-then-height_at-ne0 : goal.returns-then-height_at-ne0
returns-then-height_at-ne0 c =
    let d = goal.at.returns-then-height_at-ne0 c in
    let g = c.args.board.now.shape in
    let counts = counts_of c.args.counts.now in let marks = marks_of c.args.counts.now in
    let left = set c.args.sand.now.tiles.items c.find-tile.result.0 c.receive.new.tile in
    let gets = gets d.After-receive in
    let few = few_before gets (λ z. c.if-height_at-ne0.true (height_is d.After-height_at ∙ z)) in
    record {
      shape = refl;
      board = c.requires.pile.board;
      all_open = c.requires.pile.all_open;
      settled = record {
        sand = sand_with g c.args.sand.now c.find-tile.result.0 c.receive.new.tile c.requires.pile.sand;
        counts = c.requires.pile.counts;
        quiet = calm_quiet gets;
        settled = calm_settled g (λ j. heights_on g (tiles_of c.args.sand.now) j + one_at c.args.site j)
            (grown g c.args.counts.now c.args.counts.now) (heights_on g (tile_at left)) (grain_added gets few)
            (λ j l. omega arith) (λ j l. height_low (tile_at left (tile_of g j)) (place_of g j));
        counted = none_counted g counts;
      };
      marked = λ m p low. marked_word g counts counts marks marks m p low (marked_none counts marks)
          c.requires.pile.unmarked (none_counted g counts);
      waves = has_none c.args.sizes.now (grain_added gets few);
      size = none_grown g counts;
      lost = none_lost g counts;
    }

-- ---- the site has 4

pub topple_all-waves-requires-clause-all_open : goal.topple_all-waves-requires-clause-all_open
topple_all-waves-requires-clause-all_open c =
    taken_out (word_of (goal.at.topple_all-waves-requires-clause-all_open c).After-index-whole)

pub topple_all-waves-requires-clause-rest : goal.topple_all-waves-requires-clause-rest
topple_all-waves-requires-clause-rest c =
    let d = goal.at.topple_all-waves-requires-clause-rest c in
    record {
      quiet = calm_quiet (gets d.After-receive);
      empty = sym (height_is d.After-height_at) ∙ c.if-height_at-ne0.false;
    }

pub returns : goal.returns
returns c =
    let d = goal.at.returns c in let g = c.args.board.now.shape in
    let counts = counts_of c.args.counts.now in
    let new = tile_at (set c.args.sand.now.tiles.items c.find-tile.result.0 c.receive.new.tile) in
    let left = heights_on g (tiles_of c.topple_all-waves.new.sand) in
    let v = grown g c.args.counts.now c.topple_all-waves.new.counts in
    let all = c.topple_all-waves.ensures in
    let others = bit_xor c.index-whole.result.now c.set_of-grain.result in
    record {
      shape = refl;
      board = board_with _ c.find-tile.result.0 c.index-whole.result.now
          (board_with c.args.board.now c.find-tile.result.0 others c.requires.pile.board);
      all_open = put_back (word_of d.After-index-whole) others;
      settled = record {
        sand = all.settled.sand;
        counts = all.settled.counts;
        quiet = all.settled.quiet;
        settled = settled_same g (heights_before g c.args.site new)
            (λ j. heights_on g (tiles_of c.args.sand.now) j + one_at c.args.site j) v v left left
            (due_heights (gets d.After-receive) (sym (height_is d.After-height_at) ∙ c.if-height_at-ne0.false))
            (λ i l. refl) (λ i l. refl) all.settled.settled;
        counted = all.settled.counted;
      };
      marked = λ m p low. marked_word g counts (counts_of c.topple_all-waves.new.counts) (marks_of c.args.counts.now)
          (marks_of c.topple_all-waves.new.counts) m p low all.marked c.requires.pile.unmarked all.settled.counted;
      waves = has_same c.requires.site
          (due_heights (gets d.After-receive) (sym (height_is d.After-height_at) ∙ c.if-height_at-ne0.false))
          (λ j l. refl) all.waves;
      size = all.size;
      lost = all.lost;
    }
