-- Toppling over the integers.
-- Source: Dhar 1990, the toppling matrix and the group that it generates.
use Rattle.std.specs.Prelude.{ℕ, zero, suc, ℤ, pos, ◌≡◌, ◌+ℤ◌, ◌-ℤ◌, ◌*ℤ◌, ◌<◌, List, [], ◌∷◌}
use Rattle.sand_model.specs.Grid.{Grid, sites, neighbours}

abbrev pub whole_sum_by : (ℕ → ℤ) → List ℕ → ℤ
whole_sum_by z [] = pos 0
whole_sum_by z (j ∷ js) = z j +ℤ whole_sum_by z js

unfoldable pub whole_sum_below : ℕ → (ℕ → ℤ) → ℤ
whole_sum_below zero z = pos 0
whole_sum_below (suc n) z = whole_sum_below n z +ℤ z n

-- (Lz)(i) = 4 * z(i) - the sum of z over the neighbours of i
unfoldable pub laplacian : Grid → (ℕ → ℤ) → ℕ → ℤ
laplacian g z i = (pos 4 *ℤ z i) -ℤ whole_sum_by z (neighbours g i)

-- numbers over the sites, as integers
abbrev pub whole : (ℕ → ℕ) → ℕ → ℤ
whole s i = pos (s i)

-- s - t = Lz for some z of any sign
pub record IsEquivalent (g : Grid) (s t : ℕ → ℤ) : Type 0 where
  pub by_topplings : ℕ → ℤ
  pub difference : (i : ℕ) → i < sites g → (s i -ℤ t i) ≡ laplacian g by_topplings i
