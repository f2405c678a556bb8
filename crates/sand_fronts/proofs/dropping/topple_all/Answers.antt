-- After each wave the growth of the counts is a legal sequence of topplings, and the pile is lighter (`waves_more`).
-- Unless the site has 4 again, all sites are then below 4, and the growth is the least odometer (`waves_end`). The
-- weight also bounds all sums (`few_yet`).
use Rattle.sand_fronts.proofs.Common.{◌≡◌, ◌∙◌, refl, ap, arith, ListView, bit_le, tile_at, heights_on, tiles_of, counts_of, marks_of}
use Rattle.sand_fronts.proofs.Boards.{tile_inside}
use Rattle.sand_fronts.proofs.OnTiles.{place_below}
use Rattle.sand_fronts.proofs.Counted.{marked_none, marked_more}
use Rattle.sand_fronts.proofs.OneSite.{height_read}
use Rattle.sand_fronts.proofs.Marked.{area_is}
use Rattle.sand_fronts.proofs.WaveSizes.{has_none, has_more}
use Rattle.sand_fronts.proofs.ManyWaves.{OneMore, waves_begin, waves_more, waves_end, wave_lost, none_lost, few_yet, few_counted, none_grown}
use Rattle.sand_fronts.proofs.dropping.topple_all.Goals.{After-count_wave-wave, After-height_at}
use Rattle.sand_fronts.proofs.dropping.topple_all.Goals as goal

pub topple_wave-requires-clause-rest : goal.topple_wave-requires-clause-rest
topple_wave-requires-clause-rest c = record {
  quiet = c.waves.invariant.passed.quiet;
  empty = c.waves.invariant.passed.empty c.waves-test.true;
}

pub count_wave-wave-requires-clause-bound : goal.count_wave-wave-requires-clause-bound
count_wave-wave-requires-clause-bound c m p low =
    let counted =
    few_counted m p c.requires.board.beside.sides c.waves.invariant.passed low (c.requires.bound m p low) in
    omega (arith, bit_le (tiles_of c.topple_wave.new.self m).wave p)

pub height_at-requires : goal.height_at-requires
height_at-requires c = omega (arith, place_below c.args.board.now.shape c.args.drop.site, c.requires.drop.place)

pub waves-init : goal.waves-init
waves-init c =
    let g = c.args.board.now.shape in let counts = counts_of c.args.counts.now in
    record {
      sand = c.requires.sand;
      counts = c.requires.counts;
      marked = marked_none counts (marks_of c.args.counts.now);
      passed = waves_begin g c.args.drop.site (tiles_of c.args.sand.now) counts c.requires.rest;
      waves = has_none c.args.sizes.now (λ j l. refl);
      few = omega arith;
      size = none_grown g counts;
      lost = none_lost g counts;
    }

-- the wave, counted
wave : (c : After-count_wave-wave) → OneMore c.args.board.now.shape c.args.drop.site (tiles_of c.args.sand.now)
    (tiles_of c.waves.sand) c.topple_wave.new.self.tiles.items c.count_wave-wave.new.sand.tiles.items
    (counts_of c.args.counts.now) c.waves.counts c.count_wave-wave.new.self
    c.count_wave-wave.result.size c.count_wave-wave.result.lost
wave c =
    let whole = c.topple_wave.ensures.wave in
    record {
      inside = c.requires.drop.inside;
      before = rw c.waves-test.true at c.waves.invariant.passed;
      whole = whole;
      counts = c.count_wave-wave.ensures.counted;
      clear = c.count_wave-wave.ensures.clear;
      size_is = c.count_wave-wave.ensures.size ∙ area_is c.args.board.now.shape _ _ whole.wave.inside;
      gone_is = c.count_wave-wave.ensures.lost
          ∙ wave_lost (tile_at c.args.board.now.outside.items) c.requires.board.outside whole.wave;
    }

pub overflow_add-total : goal.overflow_add-total
overflow_add-total c =
    let next = waves_more (wave (goal.at.overflow_add-total c).After-count_wave-wave) refl in
    omega (arith, (few_yet c.requires.board.beside.sides next.waves).0, c.waves.invariant.size)

pub overflow_add-total-in-waves : goal.overflow_add-total-in-waves
overflow_add-total-in-waves c =
    let next = waves_more (wave (goal.at.overflow_add-total-in-waves c).After-count_wave-wave) refl in
    omega (arith, (few_yet c.requires.board.beside.sides next.waves).1, c.waves.invariant.lost)

pub overflow_add-number : goal.overflow_add-number
overflow_add-number c = omega (
  arith,
  c.waves.invariant.few,
  c.waves.invariant.size,
  (few_yet c.requires.board.beside.sides c.waves.invariant.passed).0,
)

height_is : (c : After-height_at) → c.height_at.result
    ≡ heights_on c.args.board.now.shape (tiles_of c.count_wave-wave.new.sand) c.args.drop.site
height_is c = height_read c.args.board.now.shape c.args.drop.site _
    (
    let inside' = tile_inside c.args.board.now.shape c.args.drop.site c.requires.drop.inside in
    let each = c.count_wave-wave.ensures.counted.tiles_each in
    omega (arith, c.requires.drop.tile, c.topple_wave.ensures.sand.len))
    c.index.ensures c.requires.drop.tile c.requires.drop.place c.height_at.ensures

pub waves-smaller : goal.waves-smaller
waves-smaller c =
    let next = waves_more (wave (goal.at.waves-smaller c).After-count_wave-wave) (height_is c) in
    rw c.waves-test.true (omega (arith, next.lighter))

pub waves-preserved : goal.waves-preserved
waves-preserved c =
    let counted = c.count_wave-wave.ensures.counted in
    let next = waves_more (wave (goal.at.waves-preserved c).After-count_wave-wave) (height_is c) in
    record {
      sand = record {
        len = counted.tiles_each ∙ c.topple_wave.ensures.sand.len;
        room = omega
            (arith, c.topple_wave.ensures.sand.room, ap (λ (l : ListView). l.room) c.count_wave-wave.ensures.list);
      };
      counts = record {
        whole_each = counted.whole_each ∙ c.waves.invariant.counts.whole_each;
        len = counted.counts_each ∙ c.waves.invariant.counts.len;
        room = counted.room ∙ c.waves.invariant.counts.room;
        marks_each = counted.marks_each ∙ c.waves.invariant.counts.marks_each;
        sound = counted.sound c.waves.invariant.counts.sound;
      };
      marked = marked_more c.waves.invariant.marked counted.marked;
      passed = next.waves;
      waves = rw c.note.ensures (has_more c.requires.drop.inside (rw c.waves-test.true at c.waves.invariant.waves)
          next.one next.size_is);
      few = omega (arith, c.waves.invariant.few, next.some);
      size = omega (arith, c.waves.invariant.size, next.all_topplings);
      lost = omega (arith, c.waves.invariant.lost, next.all_lost);
    }

pub returns-clause-settled : goal.returns-clause-settled
returns-clause-settled c =
    let passed = rw c.waves-test.false at c.waves.invariant.passed in
    record {
      sand = c.waves.invariant.sand;
      counts = c.waves.invariant.counts;
      quiet = passed.quiet;
      settled = waves_end passed;
      counted = passed.counts;
    }

pub returns-clause-waves : goal.returns-clause-waves
returns-clause-waves c = rw c.waves-test.false at c.waves.invariant.waves
