use Rattle.sand_shared.proofs.Common.{[], ◌∷◌, deliver}
use Rattle.sand_shared.proofs.steps.Words.deliver_to.Given as goal

abbrev pub ghosts-deliver : goal.ghosts-deliver
ghosts-deliver a =
    record { terms = a.self.now.terms; pass = a.seat.now.id; events = deliver a.seat.now.id a.site a.times ∷ [] }
