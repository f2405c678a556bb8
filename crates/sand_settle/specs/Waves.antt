-- A drop with its waves (Ivashkevich, Ktitarev and Priezzhev 1994).
use Rattle.std.specs.Prelude.{ℕ, ◌≡◌, ◌+◌, ◌≤◌, List, [], ◌∷◌, ◌++◌, length, sum, take}
use Rattle.sand_model.specs.Sand.{one_at}
use Rattle.sand_model.specs.Edges.{to_edge}
use Rattle.sand_model.specs.Piles.{PileView, height_of}
use Rattle.sand_settle.specs.Avalanches.{Avalanche, HasWaves}
use Rattle.sand_settle.specs.Drops.{DrivenView, grid_of_driven, topplings_between, IsAfter, HasAvalanche}

-- drop number n, at a site, leads from v to w, with this avalanche; w is also the result of any start and drops that led
-- to v, followed by this drop
pub record HasDropped (v : DrivenView) (site n : ℕ) (a : Avalanche) (w : DrivenView) : Type 0 where
  pub number : n ≡ v.number
  pub drops : HasAvalanche v site a w
  pub after : (start : PileView) (history : List ℕ) → IsAfter start history v → IsAfter start (history ++ site ∷ []) w

-- the n waves of that drop, from the heights with the grain on, and their sizes, which are written to a list: the site
-- topples once in each, so they number at most its distance to the nearest open edge; with room for all, the sizes sum
-- to that of the avalanche
pub record HasDroppedInWaves (v : DrivenView) (site n : ℕ) (a : Avalanche) (before after : List ℕ) (w : DrivenView)
    : Type 0 where
  pub waves : HasWaves (grid_of_driven v) site (λ j. height_of v.settled.pile j + one_at site j)
      (height_of w.settled.pile) n before after
  pub one_each : n ≡ topplings_between v.settled w.settled site
  pub few : n ≤ to_edge (grid_of_driven v) site
  pub sum_of_sizes : n ≤ length before → sum (take n after) ≡ a.size
