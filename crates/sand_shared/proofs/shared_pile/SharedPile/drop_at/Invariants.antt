use Rattle.sand_shared.specs.Events.{all_draws, all_places}
use Rattle.sand_shared.proofs.shared_pile.SharedPile.drop_at.Given as goal

abbrev pub ghosts-draw : goal.ghosts-draw
ghosts-draw a = record { terms = a.self.now.terms; pass = a.seat.now.id; events = all_draws a.seat.now.id a.drops.now }

abbrev pub ghosts-place : goal.ghosts-place
ghosts-place a = record { terms = a.self.now.terms; pass = a.seat.now.id; events = all_places a.seat.now.id a.site 1 }
