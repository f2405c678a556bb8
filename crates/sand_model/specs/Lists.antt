-- Lists of numbers, read as sets.
use Rattle.std.specs.Prelude.{ℕ, Bool, ◌≡◌, List, nat_lt, ◌&&◌, if◌then◌else◌}
use Rattle.sand_model.specs.Sand.{occurrences}

abbrev pub one_if : Bool → ℕ
one_if passes = if passes then 1 else 0

-- the list has each number below n that passes the test, once, and no other
pub record Lists (n : ℕ) (test : ℕ → Bool) (list : List ℕ) : Type 0 where
  pub each : (i : ℕ) → occurrences list i ≡ one_if (nat_lt i n && test i)
