-- The direction of each site, from its height and the depths around it.
use Rattle.sand_trees.proofs.Common.{ℕ, zero, suc, cond, ◌≡◌, ◌+◌, ◌-◌, ◌<◌, ◌≤◌, ◌==◌, inl, inr, refl, ap, arith, count_by, List, [], ◌∷◌, length, take, get_or, cases_Bool, cases_lt, nat_tests, sum_by-cons, Grid, sites}
use Rattle.sand_trees.specs.Trees.{depths_around, edges_below, IsTree, IsPileOfTree}
use Rattle.sand_trees.specs.Depths.{AreLayers}
use Rattle.sand_trees.proofs.Edges.{length_around, levels, around_parent, edges_below_none, passed_is}

pub layer_some : (g : Grid) (s d : ℕ → ℕ) → AreLayers g s d → (i : ℕ) → i < sites g → s i ≤ 3 → 0 < d i
layer_some g s d layers i l low =
    let burns = layers.burns i l in
    let none = edges_below_none g d i in
    let at-none = ap (edges_below g d i) {x = d i} {y = 0} in
    grind arith

-- more edges lead one step nearer than the height asks to pass
pub pick_some : (g : Grid) (s d : ℕ → ℕ) (i n a : ℕ) (xs : List ℕ) → AreLayers g s d → i < sites g → s i ≤ 3
    → xs ≡ depths_around g d i → n ≡ edges_below g d i (d i) → a ≡ d i - 1 → s i + n - 4 < count_by (λ m. m == a) xs
pick_some g s d i n a xs layers l low is counted above =
    let some = layer_some g s d layers i l low in
    let e : d i - 1 + 1 ≡ d i = omega arith in
    let whole = levels g d i (d i - 1) in
    let at-e = ap (edges_below g d i) e in
    let burns = layers.burns i l in
    let before = layers.not_before i l (d i - 1) (omega arith) in
    let whether = cases_lt (s i + edges_below g d i (d i - 1)) 4 in
    let few : s i + n - 4 < count_by (λ m. m == (d i - 1)) (depths_around g d i) = grind arith in
    rw (above, is) few

pub tree_picked : (g : Grid) (dir d : ℕ → ℕ)
    → ((i : ℕ) → i < sites g → (dir i < 4) × (get_or (depths_around g d i) (dir i) 0 + 1 ≡ d i)) → IsTree g dir d
tree_picked g dir d each = record {
  directed = λ i l. (each i l).0;
  step = λ i l.
      let one = each i l in
      omega (arith, around_parent g dir d i one.0, one.1);
}

-- ---- the place of the edge that is picked

-- the place of the element that is a, after m others
pick_at : ℕ → ℕ → List ℕ → ℕ
pick_at a m [] = 0
pick_at a zero (x ∷ xs) = cond (x == a) 0 (suc (pick_at a zero xs))
pick_at a (suc m) (x ∷ xs) = suc (pick_at a (cond (x == a) m (suc m)) xs)

-- the place is that of an a with m others before it, if there are more than m
picked : (a : ℕ) (xs : List ℕ) (m : ℕ) → m < count_by (λ n. n == a) xs
    → (pick_at a m xs < length xs) × (get_or xs (pick_at a m xs) 0 ≡ a)
    × (count_by (λ n. n == a) (take (pick_at a m xs) xs) ≡ m)
unfolding pick_at
picked a [] m some = absurd (omega arith)
picked a (x ∷ xs) zero some = elim (cases_Bool (x == a)) [
  | inl same ↦ rw same (omega arith, grind (arith, nat_tests), refl)
  | inr other ↦
      let count = sum_by-cons (λ n. cond (n == a) 1 0) x xs in
      let rest = picked a xs zero (grind arith) in
      let more = sum_by-cons (λ n. cond (n == a) 1 0) x (take (pick_at a zero xs) xs) in
      rw other (omega arith, rest.1, grind arith)
]
picked a (x ∷ xs) (suc m) some = elim (cases_Bool (x == a)) [
  | inl same ↦
      let count = sum_by-cons (λ n. cond (n == a) 1 0) x xs in
      let rest = picked a xs m (grind arith) in
      let more = sum_by-cons (λ n. cond (n == a) 1 0) x (take (pick_at a m xs) xs) in
      rw same (omega arith, rest.1, grind arith)
  | inr other ↦
      let count = sum_by-cons (λ n. cond (n == a) 1 0) x xs in
      let rest = picked a xs (suc m) (grind arith) in
      let more = sum_by-cons (λ n. cond (n == a) 1 0) x (take (pick_at a (suc m) xs) xs) in
      rw other (omega arith, rest.1, grind arith)
]

-- the direction that the height of a site picks
pub direction_at : Grid → (ℕ → ℕ) → (ℕ → ℕ) → ℕ → ℕ
direction_at g s d i = pick_at (d i - 1) (s i + edges_below g d i (d i) - 4) (depths_around g d i)

-- these directions are a tree with these depths, and with this pile
pub tree_exists : (g : Grid) (s d : ℕ → ℕ) → AreLayers g s d → ((i : ℕ) → i < sites g → s i ≤ 3)
    → IsTree g (direction_at g s d) d × IsPileOfTree g (direction_at g s d) d s
unfolding direction_at
tree_exists g s d layers low =
    let way = λ (i : ℕ) (l : i < sites g). picked (d i - 1) (depths_around g d i) (s i + edges_below g d i (d i) - 4)
    (pick_some g s d i (edges_below g d i (d i)) (d i - 1) (depths_around g d i) layers l (low i l) refl refl refl) in (
      tree_picked g (direction_at g s d) d
          (λ i l.
          let one = way i l in
          let some = layer_some g s d layers i l (low i l) in
          (omega (arith, one.0, length_around g d i), omega (arith, one.1))),
      record {
        each = λ i l.
            let one = way i l in
            omega (
              arith,
              layers.burns i l,
              passed_is g d i (direction_at g s d i) (d i - 1) _ (depths_around g d i) refl refl refl,
              one.2,
            );
      },
    )
