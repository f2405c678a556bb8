-- A site burns in the step of its depth and not before (`AreLayers`). So its height plus its edges to lower depths is
-- at least 4, and the excess is less than its edges that lead one step nearer: one of these is picked (`pick_some`).
-- Directions that lead one step nearer are a tree (`tree_picked`).
use Rattle.sand_trees.proofs.Common.{ℕ, ◌≡◌, ◌+◌, ◌<◌, arith, ap, sym, refl, length, slice_index, length_push, sites}
use Rattle.sand_certify.proofs.Pushed.{pushed}
use Rattle.sand_trees.specs.Trees.{depths_around, edges_below, edges_passed}
use Rattle.sand_trees.proofs.Edges.{below_is, passed_is}
use Rattle.sand_trees.proofs.Picks.{layer_some, pick_some, tree_picked}
use Rattle.sand_trees.proofs.bijection.directions_of.Goals as goal

pub overflow_sub-depths : goal.overflow_sub-depths
overflow_sub-depths c =
    let inside : c.loop-site.site < sites c.args.lattice.now = omega (arith, c.sites-sites.ensures.value, ap sites c.shape.ensures.value) in
    let low = c.requires.low c.loop-site.site 0 (omega (arith, c.requires.heights)) in
    layer_some c.args.lattice.now _ _ c.requires.layers c.loop-site.site inside low

pub overflow_sub-heights : goal.overflow_sub-heights
overflow_sub-heights c =
    let g = c.args.lattice.now in
    let d = slice_index c.args.depths.now in
    let site = c.loop-site.site in
    let inside : site < sites g = omega (arith, c.sites-sites.ensures.value, ap sites c.shape.ensures.value) in
    let below = below_is g d site (d site) c.count_below-below.result c.depths_around-around.result
    c.depths_around-around.ensures c.count_below-below.ensures in
    omega (arith, c.requires.layers.burns site inside, c.from.ensures)

pub pick-requires-clause-some : goal.pick-requires-clause-some
pick-requires-clause-some c =
    let g = c.args.lattice.now in
    let d = slice_index c.args.depths.now in
    let site = c.loop-site.site in
    let inside : site < sites g = omega (arith, c.sites-sites.ensures.value, ap sites c.shape.ensures.value) in
    let low = c.requires.low site 0 (omega (arith, c.requires.heights)) in
    let below = below_is g d site (d site) c.count_below-below.result c.depths_around-around.result
    c.depths_around-around.ensures c.count_below-below.ensures in
    rw c.from.ensures (pick_some g (slice_index c.args.heights.now) d site c.count_below-below.result _ c.depths_around-around.result
    c.requires.layers inside low c.depths_around-around.ensures below refl)

pub loop-site-preserved : goal.loop-site-preserved
loop-site-preserved c =
    let g = c.args.lattice.now in
    let d = slice_index c.args.depths.now in
    let s = slice_index c.args.heights.now in
    let site = c.loop-site.site in
    let inside : site < sites g = omega (arith, c.sites-sites.ensures.value, ap sites c.shape.ensures.value) in
    let low = c.requires.low site 0 (omega (arith, c.requires.heights)) in
    let some = layer_some g s d c.requires.layers site inside low in
    let burns = c.requires.layers.burns site inside in
    let below = below_is g d site (d site) c.count_below-below.result c.depths_around-around.result
    c.depths_around-around.ensures c.count_below-below.ensures in
    let around = ap (λ xs. slice_index xs c.pick.result) c.depths_around-around.ensures in
    let passed = passed_is g d site c.pick.result _ _ c.depths_around-around.result c.depths_around-around.ensures refl
    (sym c.pick.ensures.passed) in
    record {
      len = omega (arith, ap length c.in_ok-push.ensures.items, length_push {X = ℕ}, c.loop-site.invariant.len);
      each = pushed (λ k n. (n < 4) × (slice_index (depths_around g d k) n + 1 ≡ d k)
          × (s k + edges_below g d k (d k) ≡ 4 + edges_passed g d k n))
          c.loop-site.directions.items _ site c.in_ok-push.ensures.items c.loop-site.invariant.len c.loop-site.invariant.each
          (c.pick.ensures.inside, omega (arith, c.pick.ensures.found), omega (arith, c.from.ensures));
    }

pub returns-clause-tree : goal.returns-clause-tree
returns-clause-tree c = tree_picked c.args.lattice.now _ _ (λ i l.
    let one = c.loop-site.invariant.each i (omega (arith, c.sites-sites.ensures.value, ap sites c.shape.ensures.value)) in
    (one.0, one.1))
