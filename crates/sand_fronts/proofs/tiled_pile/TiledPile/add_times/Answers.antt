use Rattle.sand_fronts.proofs.Common.{rules, arith, ◌+◌, ◌∙◌, ap, slice_index, sites, TiledView, by_site}
use Rattle.sand_fronts.proofs.tiled_pile.TiledPile.add_times.Goals as goal

pub add_eights-requires-clause-fits : goal.add_eights-requires-clause-fits
add_eights-requires-clause-fits c =
    let same = ap (λ (v : TiledView). sites v.grid) c.self.view_is in (
      slice_index c.args.self.now.times,
      λ s r first says. search rules,
      λ j l. omega (arith, c.requires.bound j (omega arith)),
    )

pub returns : goal.returns
returns c =
    c.add_eights.ensures (slice_index c.args.self.now.times) (λ s r first says. search rules)
    ∙ ap (λ (v : TiledView).
    by_site v.grid (λ j. slice_index c.args.odometer.now j + slice_index c.args.self.now.times j)) c.self.view_is
