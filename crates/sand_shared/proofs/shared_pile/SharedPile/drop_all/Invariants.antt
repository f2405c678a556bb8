use Rattle.sand_shared.specs.Events.{all_draws}
use Rattle.sand_shared.proofs.shared_pile.SharedPile.drop_all.Given as goal

abbrev pub ghosts-draw : goal.ghosts-draw
ghosts-draw a = record { terms = a.self.now.terms; pass = a.seat.now.id; events = all_draws a.seat.now.id a.drops.now }
