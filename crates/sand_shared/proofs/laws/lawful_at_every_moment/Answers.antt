use Rattle.sand_shared.proofs.StepsAreEvents.{pile_of, lawful_now}
use Rattle.sand_shared.proofs.laws.lawful_at_every_moment.Goals as goal

pub returns : goal.returns
returns c = λ t s h. record { pile = pile_of t s h; lawful = lawful_now t s h; shown = h.shown }
