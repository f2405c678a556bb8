-- Lists by site that are brought up to date near one site.
use Rattle.std.specs.Prelude.{ℕ, ◌≡◌, ◌<◌}
use Rattle.sand_model.specs.Grid.{Grid, sites, distance}

-- a function returns the numbers v below n
abbrev pub Tells : ℕ → (ℕ → ℕ → Type 0) → (ℕ → ℕ) → Type 0
Tells n post v = (i r : ℕ) → i < n → post i r → r ≡ v i

-- the numbers u and v are the same at each site that is farther from a site than a reach
abbrev pub AgreeFar : Grid → ℕ → ℕ → (ℕ → ℕ) → (ℕ → ℕ) → Type 0
AgreeFar g site reach u v = (i : ℕ) → i < sites g → reach < distance g site i → u i ≡ v i
