use Rattle.sand_shared.proofs.Common.{[], ◌∷◌, count}
use Rattle.sand_shared.proofs.shared_pile.SharedPile.tally.Given as goal

abbrev pub ghosts-count : goal.ghosts-count
ghosts-count a = record { terms = a.self.now.terms; pass = a.seat.now.id; events = count a.seat.now.id ∷ [] }
