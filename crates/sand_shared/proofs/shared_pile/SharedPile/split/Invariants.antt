use Rattle.sand_shared.proofs.Common.{◌-◌, length, [], ◌∷◌, split}
use Rattle.sand_shared.proofs.shared_pile.SharedPile.split.Given as goal

abbrev pub ghosts-split : goal.ghosts-split
ghosts-split a = record {
  terms = a.self.now.terms;
  pass = a.seat.now.id;
  events = split a.seat.now.id a._quota (length a.seat.now.me.0.counts - a._kept) ∷ [];
}
