use Rattle.sand_shared.proofs.Common.{◌≡◌, drop, sites, grid_of_terms, all_places, StaysSeated}
use Rattle.sand_shared.proofs.HandAfterPlacing.{Waits}
use Rattle.sand_shared.proofs.steps.Words.place_all.Given as goal

abbrev pub ghosts-place : goal.ghosts-place
ghosts-place a =
    record { terms = a.self.now.terms; pass = a.seat.now.id; events = all_places a.seat.now.id a.site a.amount }

abbrev pub invariant-drops : goal.invariant-drops
invariant-drops l = record {
  seat : StaysSeated l.initial.seat l.seat;
  view : l.seat.me.0 ≡ record l.initial.seat.me.0 { hand = l.seat.me.0.hand };
  waits : Waits (sites (grid_of_terms l.self.terms)) l.counts.items l.seat.me.0.hand (drop l.site-index l.drops);
}
