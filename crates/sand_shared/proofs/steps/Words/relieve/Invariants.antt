use Rattle.sand_shared.proofs.Common.{[], ◌∷◌, look, unload}
use Rattle.sand_shared.proofs.steps.Words.relieve.Given as goal

abbrev pub ghosts-look : goal.ghosts-look
ghosts-look a = record { terms = a.self.now.terms; pass = a.seat.now.id; events = look a.seat.now.id a.site ∷ [] }

abbrev pub ghosts-unload : goal.ghosts-unload
ghosts-unload a =
    record { terms = a.self.now.terms; pass = a.seat.now.id; events = unload a.seat.now.id a.site a.times ∷ [] }
