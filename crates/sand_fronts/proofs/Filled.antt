-- Tiles filled with a number for each site.
use Rattle.sand_fronts.proofs.Common.{ℕ, zero, suc, Bool, true, false, cond, List, ◌∷◌, [], ◌++◌, length, get_or, Some, None, ◌≡◌, ◌+◌, ◌-◌, ◌*◌, ◌%◌, ◌^◌, ◌<◌, ◌≤◌, refl, sym, ◌∙◌, ap, subst, arith, ⊎_elim, bit_or, cases_lt, nat_tests, get_or_append_left, get_or_push, bit_at_lowest, bit_at_above, bit_at_ones, get_or-eq_default, Grid, Tile, number, had, apart, bit_le, bit_none, bit_shl, bit_shl_low, Spot, tiles, row_at, column_at, on_tiles, Tells, IsFilled, IsInner}
use Rattle.sand_tiles.specs.Places.{bit}
use Rattle.sand_fronts.specs.Tiling.{is_site, site_on}
use Rattle.sand_fronts.proofs.OnTiles.{in_grid, on_site, off_site, on_below, on_place}
use Rattle.sand_fronts.proofs.Boards.{tile_inside}

-- ---- a bit before those of a word

first_bit : (b p : ℕ) → b ≤ 1 → (bit b 0 ≡ b) × (bit b (p + 1) ≡ 0)
unfolding bit
first_bit b p few = (bit_at_lowest b ∙ omega arith, bit_at_above b 1 (p + 1) (omega arith) (omega arith))

pub put_at_first : (a b : ℕ) → b ≤ 1 → bit (bit_or (a * 2 % 2 ^ 64) b) 0 ≡ b
put_at_first a b few =
    let low = bit_shl_low a 1 0 (omega arith) (omega arith) in
    let own = (first_bit b 0 few).0 in
    let both = apart (a * 2 % 2 ^ 64) b 0 (omega arith) in
    omega arith

pub put_at_others : (a b p : ℕ) → b ≤ 1 → p < 63 → bit (bit_or (a * 2 % 2 ^ 64) b) (p + 1) ≡ bit a p
put_at_others a b p few low =
    let moved = bit_shl a 1 (p + 1) (omega arith) (omega arith) in
    let none = (first_bit b p few).1 in
    let one = bit_le a p in
    let at = ap (bit a) (let e : p + 1 - 1 ≡ p = omega arith in e) in
    let both = apart (a * 2 % 2 ^ 64) b (p + 1) (omega arith) in
    omega arith

-- ---- the site at a place

told : (b : Bool) (x s : Spot) → cond b (Some x) None ≡ Some s → (b ≡ true) × (x ≡ s)
told true x s e = (refl, cc)
told false x s e = absurd (cc)

abbrev spot_at : Grid → ℕ → ℕ → Spot
spot_at g k p = record { column = column_at g k p; row = row_at g k p }

pub spot_in : (g : Grid) (k p : ℕ) (s : Spot) → cond (is_site g k p) (Some (spot_at g k p)) None ≡ Some s
    → (s.row < g.height) × (s.column < g.width)
spot_in g k p s e =
    let t = told (is_site g k p) (spot_at g k p) s e in
    let bounds = in_grid g k p t.0 in
    subst (λ (x : Spot). (x.row < g.height) × (x.column < g.width)) t.1 (bounds.high, bounds.wide)

pub site_number : (g : Grid) (k p : ℕ) (s : Spot) (n : ℕ) (post : Spot → ℕ → Type 0)
    → cond (is_site g k p) (Some (spot_at g k p)) None ≡ Some s → post s n
    → (h : ℕ → ℕ) → Tells g post h → n ≡ on_tiles g h k p
unfolding site_on
site_number g k p s n post e says h tells =
    let t = told (is_site g k p) (spot_at g k p) s e in
    let inside = spot_in g k p s e in
    tells s n inside.0 inside.1 says ∙ ap (λ (x : Spot). h (x.row * g.width + x.column)) (sym t.1)
    ∙ sym (on_site g h k p t.0)

pub no_number : (g : Grid) (k p : ℕ) (h : ℕ → ℕ) → cond (is_site g k p) (Some (spot_at g k p)) None ≡ None
    → 0 ≡ on_tiles g h k p
no_number g k p h e = sym (off_site g h k p (grind arith))

-- ---- one more place of a tile

pub place_more : (f : ℕ → ℕ) (t u : Tile) (n : ℕ) → 0 < n → number u 0 ≡ f (n - 1)
    → ((p : ℕ) → p < 63 → number u (p + 1) ≡ number t p)
    → ((q : ℕ) → q + n < 64 → number t q ≡ f (q + n))
    → (q : ℕ) → q + (n - 1) < 64 → number u q ≡ f (q + (n - 1))
place_more f t u n some first others before zero low = first ∙ ap f (omega arith)
place_more f t u n some first others before (suc q) low =
    let e : suc q ≡ q + 1 = omega arith in
    let at : q + n ≡ suc q + (n - 1) = omega arith in
    ap (number u) e ∙ others q (omega arith) ∙ before q (omega arith) ∙ ap f at

-- ---- one more entry of a list

pub entry_more : {A : Type 0} (d : A) (P : ℕ → A → Type 0) (xs ys : List A) (x : A) (n : ℕ)
    → ys ≡ xs ++ x ∷ [] → length xs ≡ n → P n x → ((k : ℕ) → k < n → P k (get_or xs k d))
    → (k : ℕ) → k < n + 1 → P k (get_or ys k d)
entry_more {A = A} d P xs ys x n pushed long is each k below =
    subst (P k) (sym (ap (λ (zs : List A). get_or zs k d) pushed))
    (⊎_elim
    (λ (before : k < n). subst (P k) (sym (get_or_append_left xs (x ∷ []) d k (omega arith))) (each k before))
    (λ (last : n ≤ k). let e : n ≡ k = omega arith in
    subst (P k) (sym (get_or_push xs x d k (long ∙ e))) (subst (λ i. P i x) e is))
    (cases_lt k n))

-- what holds of each entry, and of the default after them, holds at each number
pub entry_each : {A : Type 0} (d : A) (P : ℕ → A → Type 0) (xs : List A) (n : ℕ) → length xs ≡ n
    → ((k : ℕ) → k < n → P k (get_or xs k d)) → ((k : ℕ) → n ≤ k → P k d) → (k : ℕ) → P k (get_or xs k d)
entry_each d P xs n long each past k = ⊎_elim
    (λ (before : k < n). each k before)
    (λ (after : n ≤ k). subst (P k) (sym (get_or-eq_default xs d {n = k} (omega arith))) (past k after))
    (cases_lt k n)

-- ---- after the last tile

pub no_tile_on : (g : Grid) (h : ℕ → ℕ) (k p : ℕ) → p < 64 → tiles g ≤ k → 0 ≡ on_tiles g h k p
no_tile_on g h k p low past = on_place g k p (λ (r : (ℕ → ℕ) → ℕ). 0 ≡ r h) low
    (λ j l tile place. let i = tile_inside g j l in absurd (omega arith)) (λ no. refl)

pub no_tile_filled : (g : Grid) (post : Spot → ℕ → Type 0) (k : ℕ) → tiles g ≤ k
    → IsFilled g post k (record { low = 0; high = 0; due = 0; wave = 0 })
no_tile_filled g post k past = record {
  clear = refl;
  each = λ h tells p low. let z = bit_none p in let e = no_tile_on g h k p low past in omega arith;
}

-- ---- numbers, grains and words

pub number_had : (t : Tile) (p : ℕ) → t.wave ≡ 0 → had t p ≡ number t p
number_had t p clear = let z = ap (λ w. bit w p) clear ∙ bit_none p in omega arith

pub low_of : (g : Grid) (k : ℕ) (t : Tile) → ((p : ℕ) → p < 64 → number t p ≡ on_tiles g (λ j. 1) k p)
    → (p : ℕ) → p < 64 → bit t.low p ≡ on_tiles g (λ j. 1) k p
low_of g k t is p low =
    let few = on_below g (λ j. 1) k p 1 low (λ j l. omega arith) in
    let one = bit_le t.low p in
    omega arith

-- ---- tiles inside the grid

pub full_word : (p : ℕ) → p < 64 → bit (2 ^ 64 - 1) p ≡ 1
unfolding bit
full_word p low = bit_at_ones 64 p low

pub inner_site : (g : Grid) (k p : ℕ) → IsInner g k → p < 64 → is_site g k p ≡ true
unfolding is_site
inner_site g k p inner low = grind (arith, nat_tests)
