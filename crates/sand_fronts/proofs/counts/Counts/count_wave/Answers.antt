-- A tile without a turn to come in the list has no site in the wave (`listed`). So at the end of the list no tile has
-- one (`none_in`), and the total is that of the whole wave (`over_none`).
use Rattle.sand_fronts.proofs.Common.{ℕ, refl, ◌≡◌, ◌*◌, length, arith, number, bit_none, tiles, tile_at, tiles_of, IsClear}
use Rattle.sand_fronts.proofs.Counted.{counted_more, few_in_sets, few_over_wave, set_less, over_none, rest_in, none_in}
use Rattle.sand_fronts.proofs.counts.Counts.count_wave.Goals as goal

pub overflow_add-total : goal.overflow_add-total
overflow_add-total c =
    let few = few_in_sets (tiles c.args.board.now.shape) (λ k. (tiles_of c.args.sand.now k).wave) in
    omega (arith, c.loop-position.invariant.size, c.requires.board.beside.fits)

pub overflow_add-total-in-loop-position : goal.overflow_add-total-in-loop-position
overflow_add-total-in-loop-position c =
    let few = few_over_wave (tiles c.args.board.now.shape) (tile_at c.args.board.now.outside.items)
    (tiles_of c.args.sand.now) in
    omega (arith, c.loop-position.invariant.lost, c.requires.board.beside.fits)

pub loop-position-preserved : goal.loop-position-preserved
loop-position-preserved c =
    let list = c.args.sand.now.list.items in
    let position = c.loop-position.position in
    let k = c.item-k.result in
    let n = tiles c.args.board.now.shape in
    let τ = tiles_of c.loop-position.sand in
    let σ = tile_at c.take-set.new.tiles.items in
    let ν = tile_at c.args.board.now.outside.items in
    let is = rw c.loop-position.invariant.list at c.item-k.ensures in
    let take = c.take-set.ensures in
    let within =
    c.requires.on_board position (omega (arith, c.len-position-end.ensures.value, c.loop-position-test.true)) in
    let less = λ (F : ℕ → ℕ → ℕ → ℕ) (none : (i p : ℕ) → F i p 0 ≡ 0).
    set_less n k F (λ m. (τ m).wave) (λ m. (σ m).wave) none (omega arith) take.empty take.others in
    let size = rw (← take.set) at (less (λ i p b. b) (λ i p. refl)) in
    let lost = rw (← take.set) at (less (λ i p b. number (ν i) p * b) (λ i p. omega arith)) in
    record {
      counted = counted_more c.loop-position.invariant.counted take.counted;
      list = c.loop-position.invariant.list;
      listed = rest_in (λ m. IsClear (τ m)) (λ m. IsClear (σ m)) k list position (length list)
          c.loop-position.invariant.listed take.counted.clear (λ p l. rw take.empty (bit_none p)) is;
      size = omega (arith, c.loop-position.invariant.size, c.size.ensures.value);
      lost = omega (arith, c.loop-position.invariant.lost, c.lost_in.ensures.value);
    }

pub returns : goal.returns
returns c =
    let after = c.loop-position.invariant in
    let n = tiles c.args.board.now.shape in
    let τ = tiles_of c.loop-position.sand in
    let ν = tile_at c.args.board.now.outside.items in
    let clear = none_in (λ m. IsClear (τ m)) c.args.sand.now.list.items c.loop-position.position
    (length c.args.sand.now.list.items) after.listed
    (omega (arith, c.len-position-end.ensures.value, c.loop-position-test.false)) in
    record {
      counted = after.counted;
      clear = clear;
      list = after.list;
      size = omega (arith, after.size, over_none n (λ i p b. b) (λ k. (τ k).wave) (λ i p. refl) clear);
      lost = omega (
        arith,
        after.lost,
        over_none n (λ i p b. number (ν i) p * b) (λ k. (τ k).wave) (λ i p. omega arith) clear,
      );
    }
