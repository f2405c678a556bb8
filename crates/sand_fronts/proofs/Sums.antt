-- A sum over all places of all tiles is the sum over all sites.
use Rattle.sand_fronts.proofs.Common.{ℕ, ◌≡◌, ◌*◌, ◌<◌, ◌≤◌, sym, ◌∙◌, ap, arith, Grid, sites, sum_below, one_at, sum_below_same, sum_below_le, sum_below_none, sum_below_swap, sum_below-scale, sum_below-ones, sum_below-one_at, one_at_comm, tiles, tile_of, place_of, on_tiles}
use Rattle.sand_fronts.proofs.Boards.{tile_inside}
use Rattle.sand_fronts.proofs.OnTiles.{place_below, on_each, own_place}

pub sum_below_most : (n most : ℕ) (f : ℕ → ℕ) → ((i : ℕ) → i < n → f i ≤ most) → sum_below n f ≤ most * n
sum_below_most n most f few =
    let ones = ap (λ x. most * x) (sum_below-ones n) in
    omega (arith, sum_below_le n f (λ i. most * 1) (λ i l. omega (arith, few i l)), sum_below-scale n most (λ i. 1))

-- v of the site j at its own place, and 0 at each other
abbrev here : Grid → (ℕ → ℕ) → ℕ → ℕ → ℕ → ℕ
here g v j k p = v j * one_at (tile_of g j) k * one_at (place_of g j) p

-- of all places, one is of site j
one_place : (g : Grid) (v : ℕ → ℕ) (n j : ℕ) → tile_of g j < n
    → sum_below n (λ k. sum_below 64 (λ p. here g v j k p)) ≡ v j
one_place g v n j l =
    sum_below_same n (λ k. sum_below 64 (λ p. here g v j k p)) (λ k. v j * one_at (tile_of g j) k)
    (λ k m. sum_below-one_at 64 (place_of g j) (λ p. v j * one_at (tile_of g j) k) (place_below g j))
    ∙ sum_below-one_at n (tile_of g j) (λ k. v j) l

-- of all sites, a place has at most one, whose number it has
one_site : (g : Grid) (v : ℕ → ℕ) (k p : ℕ) → p < 64 → sum_below (sites g) (λ j. here g v j k p) ≡ on_tiles g v k p
one_site g v k p low =
    sum_below_same (sites g) (λ j. here g v j k p) (λ j. v j * on_tiles g (one_at j) k p)
    (λ j l. rw (own_place g j k p low l) (grind arith))
    ∙ on_each g k p (λ (r : (ℕ → ℕ) → ℕ). sum_below (sites g) (λ j. v j * r (one_at j)) ≡ r v) low
    (λ s l. sum_below_same (sites g) (λ j. v j * one_at j s) (λ j. v j * one_at s j)
    (λ j m. ap (λ x. v j * x) (one_at_comm j s))
    ∙ sum_below-one_at (sites g) s v l)
    (sum_below_none (sites g) (λ j. v j * 0) (λ j l. omega arith))

pub sum_on_tiles : (g : Grid) (v : ℕ → ℕ)
    → sum_below (tiles g) (λ k. sum_below 64 (λ p. on_tiles g v k p)) ≡ sum_below (sites g) v
sum_on_tiles g v =
    sum_below_same (tiles g) (λ k. sum_below 64 (λ p. on_tiles g v k p))
    (λ k. sum_below (sites g) (λ j. sum_below 64 (λ p. here g v j k p)))
    (λ k l. sum_below_same 64 (λ p. on_tiles g v k p)
    (λ p. sum_below (sites g) (λ j. here g v j k p)) (λ p m. sym (one_site g v k p m))
    ∙ sum_below_swap 64 (sites g) (λ p j. here g v j k p))
    ∙ sum_below_swap (tiles g) (sites g) (λ k j. sum_below 64 (λ p. here g v j k p))
    ∙ sum_below_same (sites g) (λ j. sum_below (tiles g) (λ k. sum_below 64 (λ p. here g v j k p)))
    v (λ j l. one_place g v (tiles g) j (tile_inside g j l))
