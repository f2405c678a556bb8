-- Around an inner tile's places nothing is outside the grid (`inner_missing`). Elsewhere at most four places around a
-- site are outside, a number that a tile can hold (`few_missing`).
use Rattle.sand_fronts.proofs.Common.{rules, ◌+◌, ◌*◌, arith, missing, bit_none}
use Rattle.sand_fronts.proofs.NewPiles.{few_missing, inner_missing}
use Rattle.sand_fronts.proofs.board.outside_in.Goals as goal

pub returns-then-is_inner : goal.returns-then-is_inner
returns-then-is_inner c p low =
    let none = bit_none p in
    let inner = inner_missing c.args.shape c.args.k p (search rules) low in
    omega arith

pub tile_of-requires : goal.tile_of-requires
tile_of-requires c = record {
  tile = search rules;
  sites = record {
    may = λ s below left. search rules;
    bound = λ s n below left says. few_missing c.args.shape (s.row * c.args.shape.width + s.column) n (search rules);
  };
}

pub returns : goal.returns
returns c = c.tile_of.ensures.each (missing c.args.shape) (λ s n below left says. search rules)
