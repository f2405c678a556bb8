-- The heights that directions and depths give, site by site: those of the pile of a tree, if all are below 4.
use Rattle.sand_trees.proofs.Common.{ℕ, cond, ltb, ◌≡◌, ◌+◌, ◌-◌, ◌*◌, ◌/◌, ◌%◌, ◌<◌, ◌≤◌, ◌==◌, ◌||◌, min, Bool, true, false, ◌∙◌, ap, arith, inl, inr, List, [], ◌∷◌, length, take, get_or, count_by, sum, cases_Bool, cases_eq, cases_lt, nat_tests, get_or-set_same, get_or-set_other, length-set, refl, slice_index, length-take, take_all, count_by-le-length, count_by_more_yes, count_by_more_no, Grid, IsGrid, sites, is_inner, IsStable, some_width, row_above, row_below, IsRecurrent}
use Rattle.std.proofs.Math.ListN.{set}
use Rattle.std.proofs.lemmas.List.Elements.{All-from_get_or}
use Rattle.std.proofs.lemmas.Nat.{div-mul-add, mod-mul-add}
use Rattle.sand_model.specs.Grid.{north, west, east, south}
use Rattle.sand_group.proofs.OperationsOnHeights.{few_grains}
use Rattle.sand_model.specs.Piles.{most_grains_on}
use Rattle.sand_trees.specs.Trees.{depths_around, edges_below, edges_passed, IsTree, IsPileOfTree}
use Rattle.sand_trees.specs.Depths.{AreHeightsBefore, IsHeightAmong, IsHeightAt}
use Rattle.sand_trees.proofs.Edges.{around_parent}
use Rattle.sand_trees.proofs.Layers.{tree_stable, tree_recurrent}

added : (below passed v n : ℕ) (b : Bool) → below ≤ 4 → v ≡ cond b 1 0 → n ≡ 4 - below + passed + 4 * v
    → n + below ≡ 4 + passed + cond b 4 0
added below passed v n true low one is = omega arith
added below passed v n false low one is = omega arith

-- the direction leads nearer if and only if one more of the depths up to its own is one step nearer
pub among : (xs : List ℕ) (depth way below passed own v n : ℕ) → length xs ≡ 4
    → below ≡ count_by (λ d. ltb d depth) xs
    → passed ≡ count_by (λ d. d == (depth - 1)) (take way xs)
    → own ≡ count_by (λ d. d == (depth - 1)) (take (min (way + 1) 255) xs)
    → v ≡ cond ((own == passed) || (depth == 0)) 1 0 → n ≡ 4 - below + passed + 4 * v → IsHeightAmong xs depth way n
among xs depth way below passed own v n len is_below is_passed is_own wrong height =
    let test : ℕ → Bool = λ d. d == (depth - 1) in
    let few = count_by-le-length (λ d. ltb d depth) xs in
    let is = added below passed v n ((own == passed) || (depth == 0)) (omega arith) wrong height in
    let most = count_by-le-length test (take way xs) in
    let short = length-take way xs in
    let here = get_or xs way 0 in
    let yes : way < 4 → test here ≡ true → own ≡ passed + 1 = λ l e.
    (let more = count_by_more_yes test xs way 0 (omega arith) e in
    let next = ap (λ k. count_by test (take k xs)) {x = min (way + 1) 255} {y = way + 1} (omega arith) in omega arith) in
    let no : way < 4 → test here ≡ false → own ≡ passed = λ l e.
    (let more = count_by_more_no test xs way 0 (omega arith) e in
    let next = ap (λ k. count_by test (take k xs)) {x = min (way + 1) 255} {y = way + 1} (omega arith) in omega arith) in
    let past : 4 ≤ way → own ≡ passed = λ l.
    (let one = ap (count_by test) (take_all way xs (omega arith)) in
    let two = ap (count_by test) (take_all (min (way + 1) 255) xs (omega arith)) in omega arith) in
    record {
      right = λ step low.
          let more = yes low (grind (arith, nat_tests)) in
          grind (arith, nat_tests);
      nearer = λ less.
          let far = cases_lt way 4 in
          let whether = cases_Bool (test here) in
          grind (arith, nat_tests);
      few = let whether = cases_Bool ((own == passed) || (depth == 0)) in grind (arith, nat_tests);
    }

-- the same of a site, by the depths around it
at_site : (g : Grid) (dir d : ℕ → ℕ) (i t way n : ℕ) (xs : List ℕ) → xs ≡ depths_around g d i → t ≡ d i → way ≡ dir i
    → IsHeightAmong xs t way n → IsHeightAt g dir d i n
unfolding edges_below edges_passed
at_site g dir d i t way n xs is at_depth at_way among =
    let one : IsHeightAmong (depths_around g d i) (d i) (dir i) n = rw (is, at_depth, at_way) at among in
    record {
      right = λ step low. one.right (omega (arith, around_parent g dir d i low)) low;
      nearer = λ less. let near = one.nearer less in (near.0, omega (arith, around_parent g dir d i near.0));
      few = one.few;
    }

-- the height of one more site is written
pub heights_more : {g : Grid} {ways depths heights : List ℕ} {i n : ℕ} {xs : List ℕ}
    → AreHeightsBefore i g ways depths heights → i < sites g → xs ≡ depths_around g (slice_index depths) i
    → IsHeightAmong xs (slice_index depths i) (slice_index ways i) n → AreHeightsBefore (i + 1) g ways depths (set heights i n)
heights_more {g} {ways} {depths} {heights} {i} {n} before inside is among =
    let At : ℕ → ℕ → Type 0 = IsHeightAt g (slice_index ways) (slice_index depths) in
    let here : At i n = at_site g (slice_index ways) (slice_index depths) i _ _ n _ is refl refl among in
    let room : i < length heights = omega (arith, before.heights_each) in
    record {
      directions_each = before.directions_each;
      depths_each = before.depths_each;
      heights_each = length-set heights i n ∙ before.heights_each;
      each = λ k l. elim (cases_eq k i) [
        | inl same ↦ rw (same, get_or-set_same heights i n 0 room) here
        | inr other ↦ rw (get_or-set_other heights i k n 0 other) (before.each k (omega arith))
      ];
    }

pub heights_fewer : {g : Grid} {ways depths heights : List ℕ} {n : ℕ} (m : ℕ) → AreHeightsBefore n g ways depths heights → m ≤ n
    → AreHeightsBefore m g ways depths heights
heights_fewer m before few = record {
  directions_each = before.directions_each;
  depths_each = before.depths_each;
  heights_each = before.heights_each;
  each = λ k l. before.each k (omega arith);
}

-- between the ends of a row that is neither the first nor the last
pub inner_row : (g : Grid) (y k : ℕ) → 0 < y → y + 1 < g.height → y * g.width < k → k + 1 < y * g.width + g.width
    → is_inner g k ≡ true
inner_row g y k some more after before =
    let x = k - y * g.width in
    let at : k ≡ y * g.width + x = omega arith in
    let row_is : k / g.width ≡ y = ap (λ n. n / g.width) at ∙ div-mul-add y g.width x (omega arith) in
    let column_is : k % g.width ≡ x = ap (λ n. n % g.width) at ∙ mod-mul-add y g.width x (omega arith) in
    grind (arith, nat_tests)

-- an inner site has a neighbour at each place
pub around_inner : (g : Grid) (d : ℕ → ℕ) (i w : ℕ) → is_inner g i ≡ true → w ≡ g.width
    → d (i - w) ∷ d (i - 1) ∷ d (i + 1) ∷ d (i + w) ∷ [] ≡ depths_around g d i
unfolding depths_around north west east south
around_inner g d i w inner width = rw width (grind (arith, nat_tests))

pub near_inner : (g : Grid) (i : ℕ) → i < sites g → is_inner g i ≡ true
    → (1 ≤ g.width) × (g.width ≤ i) × (i + g.width < sites g)
near_inner g i l inner =
    let pos = some_width g.width g.height i l in
    let above = row_above g.width i pos in
    let below = row_below g.width g.height i pos in
    grind (arith, nat_tests, above.0, below.0)

-- ---- all sites

pub few_heights : (g : Grid) (dir d : ℕ → ℕ) (heights : List ℕ) → IsGrid g → length heights ≡ sites g
    → ((k : ℕ) → k < sites g → IsHeightAt g dir d k (get_or heights k 0)) → sum heights ≤ most_grains_on g
few_heights g dir d heights grid len each = few_grains g heights grid len
    (All-from_get_or (λ h. h ≤ 12) heights 0 (λ i l. (each i (omega arith)).few))

pub tree_of_heights : (g : Grid) (dir d s : ℕ → ℕ) → ((k : ℕ) → k < sites g → IsHeightAt g dir d k (s k)) → IsStable g s
    → IsTree g dir d × IsPileOfTree g dir d s × IsRecurrent g s
tree_of_heights g dir d s each stable =
    let near = λ (i : ℕ) (l : i < sites g). (each i l).nearer (omega (arith, stable.low i l)) in
    let tree : IsTree g dir d = record { directed = λ i l. (near i l).0; step = λ i l. (near i l).1 } in
    let pile : IsPileOfTree g dir d s = record { each = λ i l. (each i l).right (near i l).1 (near i l).0 } in
    (tree, pile, tree_recurrent g dir d s tree pile)

pub no_tree : (g : Grid) (dir d s : ℕ → ℕ) → ((k : ℕ) → k < sites g → IsHeightAt g dir d k (s k)) → ¬ IsStable g s
    → ¬ IsTree g dir d
no_tree g dir d s each unstable tree =
    unstable (tree_stable g dir d s tree (record { each = λ i l. (each i l).right (tree.step i l) (tree.directed i l) }))
