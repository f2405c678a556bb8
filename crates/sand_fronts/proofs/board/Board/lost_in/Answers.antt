-- No place of a lossless tile has a number, so each term of the sum is 0.
use Rattle.sand_fronts.proofs.Common.{true, false, sym, ap, ◌≡◌, ◌*◌, ◌∙◌, rules, arith, get_or_read, sum_below, sum_below_none, Tile, bit, number, tile_at, flag_at}
use Rattle.sand_fronts.proofs.Gained.{tile_read}
use Rattle.sand_fronts.proofs.board.Board.lost_in.Goals as goal

pub returns-then-index-clause-value : goal.returns-then-index-clause-value
returns-then-index-clause-value c =
    let board = c.args.self.now in
    let read = get_or_read board.lossless.items c.args.k _ (search rules) c.index.ensures false in
    let is : flag_at board.lossless.items c.args.k ≡ true = sym read ∙ c.if-index.true in
    sym (sum_below_none 64 (λ p. number (tile_at board.outside.items c.args.k) p * bit c.args.set p)
    (λ p low. let none = c.requires.board.lossless c.args.k is p low in rw none (omega arith)))

pub returns-clause-value : goal.returns-clause-value
returns-clause-value c =
    let outside = c.args.self.now.outside.items in
    let read = tile_read outside c.args.k _ (search rules) c.index-2.ensures in
    c.sum_over.ensures.value ∙ ap (λ (x : Tile). sum_below 64 (λ p. number x p * bit c.args.set p)) read
