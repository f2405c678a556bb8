-- Before each place the hand has the grains for it and for the places after it, and for a place outside the grid none
-- (`hand`). So what is delivered next is first in the hand (`first_in_hand`).
use Rattle.sand_shared.proofs.Common.{refl, rules, ◌∙◌, sites, grid_of_terms}
use Rattle.sand_model.proofs.Neighbours.{place_inside}
use Rattle.sand_shared.proofs.SentToNeighbours.{all_in_hand, first_in_hand, rest_in_hand, none_in_hand}
use Rattle.sand_shared.proofs.steps.Words.deliver_around.Goals as goal

pub loop-place-init : goal.loop-place-init
loop-place-init c = record {
  seat = search rules;
  hand = all_in_hand c.args.self.now.terms c.args.site c.args.times _ _ c.neighbours-around.ensures c.requires.hand;
}

pub deliver_to-requires-clause-hand : goal.deliver_to-requires-clause-hand
deliver_to-requires-clause-hand c = first_in_hand c.args.self.now.terms c.args.site c.args.times
    c.loop-place.place-index _ c.neighbours-around.ensures
    c.loop-place.seat.me.0 c.args.seat.now.me.0 c.loop-place.invariant.hand c.loop-place-test.true

pub deliver_to-requires-clause-site : goal.deliver_to-requires-clause-site
deliver_to-requires-clause-site c =
    place_inside (grid_of_terms c.args.self.now.terms) c.args.site (sites (grid_of_terms c.args.self.now.terms))
    c.loop-place.place-index _ c.neighbours-around.ensures c.requires.site refl

pub loop-place-preserved : goal.loop-place-preserved
loop-place-preserved c = record {
  seat = search rules;
  hand = c.deliver_to.ensures.view ∙ rest_in_hand c.args.self.now.terms c.args.site c.args.times
      c.loop-place.place-index _ c.neighbours-around.ensures
      c.loop-place.seat.me.0 c.args.seat.now.me.0 c.loop-place.invariant.hand c.loop-place-test.true;
}

pub returns-clause-view : goal.returns-clause-view
returns-clause-view c = none_in_hand c.args.self.now.terms c.args.site c.args.times
    c.loop-place.place-index _ c.neighbours-around.ensures
    c.loop-place.seat.me.0 c.args.seat.now.me.0 c.loop-place.invariant.hand c.loop-place-test.false
