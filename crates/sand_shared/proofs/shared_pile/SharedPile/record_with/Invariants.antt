use Rattle.std.proofs.Common.{[]}
use Rattle.sand_shared.proofs.shared_pile.SharedPile.record_with.Given as goal

abbrev pub ghosts-learn : goal.ghosts-learn
ghosts-learn a = record { terms = a.self.now.terms; pass = a.seat.now.id; events = [] }
