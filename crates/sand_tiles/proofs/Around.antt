-- Sums over the neighbours of a place that are inside the tile.
use Rattle.std.proofs.Common.{ℕ, ◌≡◌, ◌+◌, ◌-◌, ◌<◌, ◌≤◌, arith}
use Rattle.std.proofs.lemmas.Bool.Decides.{nat_tests}
use Rattle.sand_tiles.specs.Places.{north, south, west, east, around}

pub around_sum : (f g h : ℕ → ℕ) (p : ℕ) → p < 64 → ((q : ℕ) → q < 64 → f q + g q ≡ h q)
    → around f p + around g p ≡ around h p
unfolding north south west east
around_sum f g h p low sums = grind (arith, nat_tests, sums (p - 8), sums (p + 8), sums (p - 1), sums (p + 1))

pub around_le : (f g : ℕ → ℕ) (p : ℕ) → p < 64 → ((q : ℕ) → q < 64 → f q ≤ g q) → around f p ≤ around g p
unfolding north south west east
around_le f g p low less = grind (arith, nat_tests, less (p - 8), less (p + 8), less (p - 1), less (p + 1))

pub around_none : (f : ℕ → ℕ) (p : ℕ) → p < 64 → ((q : ℕ) → q < 64 → f q ≡ 0) → around f p ≡ 0
around_none f p low none = omega (arith, around_sum f f f p low (λ q l. omega (arith, none q l)))
