-- Firing vectors: the Laplacian of a difference, and that only one firing vector leads from heights to others.
--
-- If Lz is 0 at each site, any recurrent pile c is c - Lz, so z is neither above nor below 0 anywhere, as in the proof
-- that equivalent recurrent piles are equal.
use Rattle.sand_group.proofs.Common.{ℕ, ◌≡◌, ◌+◌, ◌-◌, ◌*◌, ◌<◌, sym, arith, ℤ, pos, ◌+ℤ◌, ◌-ℤ◌, ◌↔◌, ints, Grid, sites, flow, laplacian, whole, IsEquivalent, flow_same, flow-add, above, below, parts, laplacian-parts, IsRecurrent, Represents, IsFired}
use Rattle.sand_group.proofs.RecurrentIsUnique.{none_above}
use Rattle.sand_group.proofs.OperationsSettle.{class_has_one, represented_once}

-- the Laplacian of p - q
pub laplacian-difference : (g : Grid) (z : ℕ → ℤ) (p q : ℕ → ℕ)
    → ((i : ℕ) → i < sites g → z i ≡ pos (p i) -ℤ pos (q i)) → (i : ℕ) → i < sites g
    → laplacian g z i ≡ (pos (4 * p i) +ℤ pos (flow g q i)) -ℤ (pos (4 * q i) +ℤ pos (flow g p i))
laplacian-difference g z p q is i l = omega (
  arith,
  ints,
  laplacian-parts g z i,
  is i l,
  parts (z i),
  flow-add g (λ j. above (z j)) q i,
  flow-add g (λ j. below (z j)) p i,
  flow_same g (λ j. above (z j) + q j) (λ j. below (z j) + p j)
      (λ j m. omega (arith, ints, is j m, parts (z j))) i l,
)

-- ---- uniqueness

-- by how much p is above q
abbrev more : (ℕ → ℕ) → (ℕ → ℕ) → ℕ → ℕ
more p q i = p i - q i

-- if Lp and Lq are the same, so are p and q
same_if_flat : (g : Grid) (p q : ℕ → ℕ)
    → ((i : ℕ) → i < sites g → 4 * p i + flow g q i ≡ 4 * q i + flow g p i)
    → (i : ℕ) → i < sites g → p i ≡ q i
same_if_flat g p q flat i l =
    let some = class_has_one g (λ j. pos 0) in
    let recurrent = some.1.recurrent in
    let balance : (j : ℕ) → j < sites g
    → some.0 j + 4 * more q p j + flow g (more p q) j ≡ some.0 j + 4 * more p q j + flow g (more q p) j = λ j m. omega (
      arith,
      flat j m,
      flow-add g (more p q) q j,
      flow-add g (more q p) p j,
      flow_same g (λ k. more p q k + q k) (λ k. more q p k + p k) (λ k n. omega arith) j m,
    ) in
    let up = none_above g some.0 some.0 (more p q) (more q p) recurrent.stable recurrent balance
    (λ j some. omega arith) in
    let down = none_above g some.0 some.0 (more q p) (more p q) recurrent.stable recurrent (λ j m. sym (balance j m))
    (λ j some. omega arith) in
    omega (arith, up i l, down i l)

-- z and y that lead to the same heights are equal
pub firing_unique : (g : Grid) (x z y c : ℕ → ℤ) → IsFired g x z c → IsFired g x y c
    → (i : ℕ) → i < sites g → z i ≡ y i
firing_unique g x z y c one two i l =
    let p : ℕ → ℕ = λ j. above (z j) + below (y j) in
    let q : ℕ → ℕ = λ j. below (z j) + above (y j) in
    let flat : (j : ℕ) → j < sites g → 4 * p j + flow g q j ≡ 4 * q j + flow g p j = λ j m. omega (
      arith,
      ints,
      one.difference j m,
      two.difference j m,
      laplacian-parts g z j,
      laplacian-parts g y j,
      flow-add g (λ k. above (z k)) (λ k. below (y k)) j,
      flow-add g (λ k. below (z k)) (λ k. above (y k)) j,
    ) in
    omega (arith, ints, same_if_flat g p q flat i l, parts (z i), parts (y i))

pub fired_equivalent : (g : Grid) (x z c : ℕ → ℤ) → IsFired g x z c → IsEquivalent g x c
fired_equivalent g x z c fired = record {
  by_topplings = z;
  difference = λ i l. let e = fired.difference i l in omega (arith, ints);
}

pub fired_if_equivalent : (g : Grid) (x c : ℕ → ℤ) → IsEquivalent g x c ↔ ((z : ℕ → ℤ) × IsFired g x z c)
fired_if_equivalent g x c = (
  λ same. (
    same.by_topplings,
    record { difference = λ i l. let e = same.difference i l in omega (arith, ints) },
  ),
  λ fired. fired_equivalent g x fired.0 c fired.1,
)

-- a recurrent pile is that of its class, and nothing is fired
pub recurrent_fires_nothing : (g : Grid) (x z : ℕ → ℤ) (e c : ℕ → ℕ) → IsRecurrent g c
    → ((i : ℕ) → i < sites g → x i ≡ pos (c i)) → Represents g x e → IsFired g x z (whole e)
    → (i : ℕ) → i < sites g → (e i ≡ c i) × (z i ≡ pos 0)
recurrent_fires_nothing g x z e c recurrent is represents fired i l =
    let itself : Represents g x c = record {
      recurrent = recurrent;
      equivalent = record {
        by_topplings = λ j. pos 0;
        difference = λ j m. omega (
          arith,
          ints,
          is j m,
          laplacian-difference g (λ k. pos 0) (λ k. 0) (λ k. 0)
              (λ k n. omega (arith, ints)) j m,
        );
      };
    } in
    let same = represented_once g x e c represents itself in
    let none : IsFired g x (λ j. pos 0) (whole e) = record {
      difference = λ j m. omega (
        arith,
        ints,
        is j m,
        same j m,
        laplacian-difference g (λ k. pos 0) (λ k. 0) (λ k. 0)
            (λ k n. omega (arith, ints)) j m,
      );
    } in
    (same i l, firing_unique g x z (λ j. pos 0) (whole e) fired none i l)
