-- A pile that is being settled, from one moment to a later one.
-- Source: least action (chip-firing): every w that stabilises the start bounds the legal topplings.
use Rattle.std.specs.Prelude.{ℕ, ◌+◌, ◌*◌, ◌≤◌}
use Rattle.sand_model.specs.Grid.{Grid}
use Rattle.sand_model.specs.Sand.{IsUnderway, grains, topplings, weight}

-- legal topplings lead from the counts u and the heights t to the counts v and the heights r
pub record Advances (g : Grid) (u t v r : ℕ → ℕ) : Type 0 where
  pub underway : (s : ℕ → ℕ) → IsUnderway g s u t → IsUnderway g s v r
  pub weight_pays : 2 * topplings g v + weight g r ≤ 2 * topplings g u + weight g t
  pub grains_fall : grains g r ≤ grains g t
