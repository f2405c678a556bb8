-- The group of recurrent piles: each class of equivalent piles has one recurrent pile.
-- Sources: Dhar 1990 (the group), Holroyd, Levine, Mészáros, Peres, Propp and Wilson 2008 (the identity from 2m).
-- m is the pile of all 3.
use Rattle.std.specs.Prelude.{ℕ, ℤ, pos, ◌≡◌, ◌+◌, ◌*◌, ◌<◌, ◌-ℤ◌, length}
use Rattle.sand_model.specs.Grid.{Grid, sites}
use Rattle.sand_model.specs.Sand.{IsSettled}
use Rattle.sand_model.specs.Integers.{whole, IsEquivalent}
use Rattle.sand_model.specs.Piles.{PileView, height_of}
use Rattle.sand_group.specs.Recurrence.{IsRecurrent}

-- the heights s settle to the pile
pub record SettlesTo (g : Grid) (s : ℕ → ℕ) (pile : PileView) : Type 0 where
  pub grid : pile.grid ≡ g
  pub len : length pile.heights ≡ sites g
  pub odometer : ℕ → ℕ
  pub settled : IsSettled g s odometer (height_of pile)

-- s settles, and P is true of each pile that s settles to
pub record OnceSettled (g : Grid) (s : ℕ → ℕ) (P : (ℕ → ℕ) → Type 0) : Type 0 where
  pub odometer : ℕ → ℕ
  pub rest : ℕ → ℕ
  pub settled : IsSettled g s odometer rest
  pub each : (u t : ℕ → ℕ) → IsSettled g s u t → P t

-- d = 2m - settled(2m): it is equivalent to all 0, and at least 3 at each site
pub record IsSurplus (g : Grid) (d : ℕ → ℕ) : Type 0 where
  pub odometer : ℕ → ℕ
  pub rest : ℕ → ℕ
  pub settled : IsSettled g (λ i. 6) odometer rest
  pub difference : (i : ℕ) → i < sites g → d i + rest i ≡ 6

-- c is recurrent and equivalent to x
pub record Represents (g : Grid) (x : ℕ → ℤ) (c : ℕ → ℕ) : Type 0 where
  pub recurrent : IsRecurrent g c
  pub equivalent : IsEquivalent g (whole c) x

-- the recurrent pile equivalent to a + b
abbrev pub IsSum : Grid → (ℕ → ℕ) → (ℕ → ℕ) → (ℕ → ℕ) → Type 0
IsSum g a b = Represents g (λ i. pos (a i + b i))

-- the recurrent pile equivalent to n times c
abbrev pub IsMultiple : Grid → ℕ → (ℕ → ℕ) → (ℕ → ℕ) → Type 0
IsMultiple g n c = Represents g (λ i. pos (n * c i))

-- the recurrent pile equivalent to all 0
abbrev pub IsIdentity : Grid → (ℕ → ℕ) → Type 0
IsIdentity g = Represents g (λ i. pos 0)

-- the recurrent pile equivalent to -c
abbrev pub IsInverse : Grid → (ℕ → ℕ) → (ℕ → ℕ) → Type 0
IsInverse g c = Represents g (λ i. pos 0 -ℤ pos (c i))

-- the pile is the recurrent pile equivalent to the heights s
pub record IsEquivalentRecurrent (g : Grid) (s : ℕ → ℕ) (pile : PileView) : Type 0 where
  pub grid : pile.grid ≡ g
  pub len : length pile.heights ≡ sites g
  pub represents : Represents g (whole s) (height_of pile)
