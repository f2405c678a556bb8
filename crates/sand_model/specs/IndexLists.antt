-- Lists of indices, of sites or of tiles.
use Rattle.std.specs.Prelude.{ℕ, Bool, List, ◌≡◌, ◌+◌, ◌≤◌, ◌++◌, length}
use Rattle.sand_model.specs.Lists.{Lists}

-- what contracts see of a list with a fixed capacity
pub record ListView : Type 0 where
  pub items : List ℕ
  pub room : ℕ

-- at most `most` new numbers join the end of the list l, which becomes m: appended to any list of the numbers below n
-- that pass p, they give a list of those that pass q
pub record Joins (n most : ℕ) (p q : ℕ → Bool) (l m : ListView) : Type 0 where
  pub new : List ℕ
  pub items : m.items ≡ l.items ++ new
  pub bound : length m.items ≤ length l.items + most
  pub room : m.room ≡ l.room
  pub waiting : (list : List ℕ) → Lists n p list → Lists n q (list ++ new)
