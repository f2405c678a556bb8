-- The heights are added to zeros, so the sums are the heights; and as no height is over 3, the sums fit.
use Rattle.sand_fronts.proofs.Common.{rules, arith, ℕ, ◌≡◌, ◌+◌, ◌<◌, ◌∙◌, ap, get_or, length, sym, slice_index, get_or-replicate, sites, TiledView}
use Rattle.sand_fronts.proofs.NewPiles.{by_site_is}
use Rattle.sand_fronts.proofs.OnPiles.{heights_seen}
use Rattle.sand_fronts.proofs.tiled_pile.TiledPile.read_heights.Goals.{After-fill}
use Rattle.sand_fronts.proofs.tiled_pile.TiledPile.read_heights.Goals as goal

filled : (c : After-fill) → (j : ℕ) → j < length c.args.heights.now → get_or c.fill.new.self j 0 ≡ 0
filled c j l = ap (λ xs. get_or xs j 0) (c.fill.ensures.after (λ y e. e))
    ∙ get_or-replicate {A = ℕ} (length c.args.heights.now) j 0 0 l

pub add_eights-requires-clause-fits : goal.add_eights-requires-clause-fits
add_eights-requires-clause-fits c =
    let same = ap (λ (v : TiledView). sites v.grid) c.self.view_is in
    let seen = heights_seen c.self.inside.board.shape c.self.inside.sand c.self.inside.counts c.self.view_is in (
      slice_index c.args.self.now.heights,
      λ s r first says. search rules,
      λ j l.
          let none = filled (goal.at.add_eights-requires-clause-fits c).After-fill j (omega (arith, c.requires)) in
          omega (arith, seen.1 j l),
    )

pub returns : goal.returns
returns c =
    let same = ap (λ (v : TiledView). sites v.grid) c.self.view_is in
    let seen = heights_seen c.self.inside.board.shape c.self.inside.sand c.self.inside.counts c.self.view_is in
    c.add_eights.ensures (slice_index c.args.self.now.heights) (λ s r first says. search rules)
    ∙ sym (by_site_is c.self.inside.board.shape
    (λ j. slice_index c.fill.new.self j + slice_index c.args.self.now.heights j) c.args.self.now.heights seen.0
    (λ j l.
    let none = filled (goal.at.returns c).After-fill j (omega (arith, c.requires)) in
    omega arith))
