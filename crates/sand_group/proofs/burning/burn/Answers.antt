-- If all sites are in the list, they burn in its order, and no set is forbidden (`burned_recurrent`). If not, those
-- left over are the greatest forbidden set (`burned_forbidden`).
use Rattle.sand_group.proofs.Common.{◌≡◌, ◌∙◌, slice_index, length, refl, ap, arith, sites, IsStable}
use Rattle.sand_group.proofs.FireLeavesForbidden.{burned_recurrent, burned_forbidden}
use Rattle.sand_group.proofs.burning.burn.Goals as goal

pub returns-then-len-sites-clause-burned : goal.returns-then-len-sites-clause-burned
returns-then-len-sites-clause-burned c =
    let grid = c.in_ok-lattice.ensures ∙ c.shape-shape.ensures.value in
    let heights = c.heights-heights.ensures.value in
    let stable : IsStable c.in_ok-lattice.lattice (slice_index c.heights-heights.result.now) =
    rw (grid, heights) (c.if-not-is_stable.ensures.0 refl) in
    rw (← grid, ← heights) (burned_recurrent c.in_ok-lattice.lattice (slice_index c.heights-heights.result.now)
    (slice_index c.burn_out.new.unburnt.items) c.burn_out.new.burnt.items stable c.burn_out.ensures.all
    c.burn_out.ensures.in_turn (omega (arith, c.burn_out.new.burnt.ok, ap sites c.in_ok-lattice.ensures)))

pub returns-clause-burned : goal.returns-clause-burned
returns-clause-burned c =
    let grid = c.in_ok-lattice.ensures ∙ c.shape-shape.ensures.value in
    let heights = c.heights-heights.ensures.value in
    let one_each : length c.heights-heights.result.now ≡ sites c.in_ok-lattice.lattice =
    rw (grid, heights) c.heights-heights.ensures.pile.len in
    let rest = rw (c.deref-2.ensures.value, one_each) at c.in_ok-left.ensures.all in
    let short : length c.burn_out.new.burnt.items ≡ sites c.in_ok-lattice.lattice → ⊥ =
    λ e. c.if-len-sites.false (omega (arith, c.burn_out.new.burnt.ok, ap sites c.in_ok-lattice.ensures)) in
    rw (← grid, ← heights) (burned_forbidden c.in_ok-lattice.lattice
    (slice_index c.heights-heights.result.now) (slice_index c.burn_out.new.unburnt.items)
    c.burn_out.new.burnt.items c.in_ok-left.left.items c.burn_out.ensures.counts
    c.burn_out.ensures.all c.burn_out.ensures.in_turn short rest c.in_ok-left.ensures.ascending)
