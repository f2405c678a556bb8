use Rattle.sand_shared.proofs.Common.{◌≡◌, ℕ, ◌+◌, ◌*◌, ◌<◌, ◌≤◌, [], length, get_or, vec_capacity, ◌∷◌, flow, grid_of_terms, toppled_by, look, looked, start_and_receipts}
use Rattle.sand_shared.proofs.steps.Words.read.Given as goal

abbrev pub invariant-sites : goal.invariant-sites
invariant-sites l = record {
  table : l.seat.table_id ≡ l.initial.seat.table_id;
  id : l.seat.id ≡ l.initial.seat.id;
  bare : l.seat.me.1 ≡ [];
  view : l.seat.me.0 ≡ looked l.initial.seat.me.0 l.seat.me.0.spot l.seat.me.0.least;
  len : length l.heights.items ≡ l.site;
  room : l.sites ≤ vec_capacity l.heights;
  left : (i : ℕ) → i < l.site
      → get_or l.heights.items i 0 + 4 * toppled_by l.initial.seat.me.0 i
      ≡ start_and_receipts l.self.terms l.initial.seat.me.0 i
      + flow (grid_of_terms l.self.terms) (toppled_by l.initial.seat.me.0) i;
}

abbrev pub ghosts-look : goal.ghosts-look
ghosts-look a = record { terms = a.self.now.terms; pass = a.seat.now.id; events = look a.seat.now.id a.site ∷ [] }

abbrev pub ghosts-learn : goal.ghosts-learn
ghosts-learn a = record { terms = a.self.now.terms; pass = a.seat.now.id; events = [] }
