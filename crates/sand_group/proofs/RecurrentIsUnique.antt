-- Two equivalent recurrent piles are equal.
--
-- If they differ by the topplings z, split z into its part p above 0 and its part q below 0. If p is not 0, the sites
-- where it is greatest are forbidden in the second pile. So p is 0, and in the same way q is 0.
use Rattle.sand_group.proofs.Common.{ℕ, eqb, ◌≡◌, ◌+◌, ◌-◌, ◌*◌, ◌<◌, inl, inr, sym, arith, ℤ, pos, ◌-ℤ◌, ints, cases_lt, Grid, sites, flow, IsStable, laplacian, whole, IsEquivalent, flow_same, flow-add, above, below, laplacian-parts, IsRecurrent}
use Rattle.sand_model.proofs.SettledIfTight.{greatest, top_is_forbidden}

-- how far z is above 0, and how far below
abbrev over : (ℕ → ℤ) → ℕ → ℕ
over z i = above (z i) - below (z i)

abbrev under : (ℕ → ℤ) → ℕ → ℕ
under z i = below (z i) - above (z i)

-- c - d = Lz, without subtraction
balance_of_parts : (g : Grid) (c d : ℕ → ℕ) (z : ℕ → ℤ) (i : ℕ)
    → i < sites g → (pos (c i) -ℤ pos (d i)) ≡ laplacian g z i
    → c i + 4 * under z i + flow g (over z) i ≡ d i + 4 * over z i + flow g (under z) i
balance_of_parts g c d z i l e = omega (
  arith,
  ints,
  laplacian-parts g z i,
  flow-add g (over z) (λ j. below (z j)) i,
  flow-add g (under z) (λ j. above (z j)) i,
  flow_same g (λ j. over z j + below (z j)) (λ j. under z j + above (z j)) (λ j m. omega arith) i l,
)

pub none_above : (g : Grid) (c d p q : ℕ → ℕ) → IsStable g c → IsRecurrent g d
    → ((i : ℕ) → i < sites g → c i + 4 * q i + flow g p i ≡ d i + 4 * p i + flow g q i)
    → ((i : ℕ) → 0 < p i → q i ≡ 0) → (i : ℕ) → i < sites g → p i ≡ 0
none_above g c d p q stable recurrent balance apart i l =
    let top = greatest (sites g) p (omega arith) in
    elim (cases_lt 0 (p top.0)) [
      | inl some ↦ absurd (recurrent.none (λ j. eqb (p j) (p top.0)) (top_is_forbidden g d p q top.0
          (λ j m. omega (arith, stable.low j m, balance j m)) apart top.1 top.2 some))
      | inr none ↦ omega (arith, top.2 i l)
    ]

pub recurrent_unique : (g : Grid) (c d : ℕ → ℕ) → IsRecurrent g c → IsRecurrent g d
    → IsEquivalent g (whole c) (whole d) → (i : ℕ) → i < sites g → c i ≡ d i
recurrent_unique g c d rc rd same i l =
    let z = same.by_topplings in
    let balance : (j : ℕ) → j < sites g
    → c j + 4 * under z j + flow g (over z) j ≡ d j + 4 * over z j + flow g (under z) j =
    λ j m. balance_of_parts g c d z j m (same.difference j m) in
    let up = none_above g c d (over z) (under z) rc.stable rd balance (λ j some. omega arith) in
    let down =
    none_above g d c (under z) (over z) rd.stable rc (λ j m. sym (balance j m)) (λ j some. omega arith) in
    let around = flow_same g (over z) (under z) (λ j m. omega (arith, up j m, down j m)) i l in
    omega (arith, up i l, down i l, balance i l)
