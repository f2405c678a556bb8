-- A place that is no site has count 0, so the bound by site bounds all places (`few_now`). Reading the avalanche
-- clears the marks: so the pile is again one between two drops (`pile_after`).
use Rattle.sand_fronts.proofs.Common.{◌^◌, ◌∙◌, arith, counts_of}
use Rattle.sand_fronts.proofs.NewPiles.{counts_sites}
use Rattle.sand_fronts.proofs.OnPiles.{dropped, waves_seen, few_now, pile_after, sites_toppled}
use Rattle.sand_fronts.proofs.tiled_pile.TiledPile.drop_with_waves.Goals as goal

pub topple_grain-waves-requires : goal.topple_grain-waves-requires
topple_grain-waves-requires c = record {
  site = rw (← c.self.view_is) at c.requires.site;
  pile = c.self.invariant;
  bound = few_now (2 ^ 60) c.self.inside.board.shape c.self.inside.sand c.self.inside.counts (omega arith)
      c.self.invariant.at_sites (rw (← c.self.view_is) at c.requires.bound);
}

pub avalanche_of-avalanche-requires-clause-at_sites : goal.avalanche_of-avalanche-requires-clause-at_sites
avalanche_of-avalanche-requires-clause-at_sites c = sites_toppled _ _ _ c.topple_grain-waves.ensures.marked

pub invariant_of-self : goal.invariant_of-self
invariant_of-self c =
    let is = c.topple_grain-waves.ensures in let each = is.settled.counts in
    pile_after is.shape is.board is.all_open is.settled
    (record {
      whole_each = each.whole_each;
      len = each.len;
      room = each.room;
      marks_each = c.avalanche_of-avalanche.ensures.len ∙ each.marks_each;
      sound = each.sound;
    })
    (counts_sites c.self.inside.board.shape (counts_of c.self.inside.counts) (counts_of c.topple_grain-waves.new.counts)
    c.self.invariant.at_sites is.settled.counted)
    c.avalanche_of-avalanche.ensures.none

pub returns-clause-dropped : goal.returns-clause-dropped
returns-clause-dropped c =
    let is = c.topple_grain-waves.ensures in
    dropped c.self.inside.sand c.self.view_is is.shape is.settled
    (c.avalanche_of-avalanche.ensures.avalanche _ is.marked is.size is.lost)

pub returns-clause-waves : goal.returns-clause-waves
returns-clause-waves c =
    let is = c.topple_grain-waves.ensures in
    waves_seen c.self.inside.sand c.topple_grain-waves.new.sand c.self.inside.counts
    (record c.topple_grain-waves.new.counts { marks = c.avalanche_of-avalanche.new.marks }) c.self.view_is is.shape
    (rw (← c.self.view_is) at c.requires.site) is.waves
