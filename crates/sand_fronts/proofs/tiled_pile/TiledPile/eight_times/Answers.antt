use Rattle.std.proofs.Common.{◌^◌, ◌∙◌, arith}
use Rattle.sand_fronts.proofs.Eights.{few_places}
use Rattle.sand_fronts.proofs.OnPiles.{eight_seen, few_now}
use Rattle.sand_fronts.proofs.tiled_pile.TiledPile.eight_times.Goals as goal

pub eight_times-requires-clause-place : goal.eight_times-requires-clause-place
eight_times-requires-clause-place c =
    let few = few_places c.self.inside.board.shape c.args.spot (rw (← c.self.view_is) at c.requires.spot) in
    omega (arith, c.find_at-tile.ensures.place)

pub eight_times-requires-clause-bound : goal.eight_times-requires-clause-bound
eight_times-requires-clause-bound c = few_now (2 ^ 63) c.self.inside.board.shape c.self.inside.sand c.self.inside.counts
    (omega arith) c.self.invariant.at_sites (rw (← c.self.view_is) at c.requires.bound) c.find_at-tile.result.0

pub returns : goal.returns
returns c i few inside = c.eight_times.ensures i few
    ∙ (eight_seen c.self.inside.board.shape c.self.inside.sand c.self.inside.counts c.args.spot c.self.view_is
    c.requires.spot c.find_at-tile.ensures.tile c.find_at-tile.ensures.place i few inside).1
