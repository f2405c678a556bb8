-- A stable pile is recurrent if and only if it has a burning order.
--
-- In a recurrent pile no set is forbidden, so all sites burn one by one. Conversely, the first site of a forbidden set
-- in the order has all its neighbours in the set after it.
use Rattle.sand_group.proofs.Common.{ℕ, Bool, true, false, ◌≡◌, ◌+◌, ◌<◌, ◌≤◌, ap, arith, List, [], ◌∷◌, All, count_by, inl, inr, ◌↔◌, cases_Bool, nat_tests, All-nil, All-cons, All-head, All-tail, Grid, IsGrid, joins, sites, neighbours, sum_below, occurrences, one_at, value_at, IsStable, IsForbidden, flow_four, some_width, count_within, flow_same, flow-add, indicator, occurrences-cons, IsRecurrent, is_in, BurnsInOrder, IsBurningOrder}
use Rattle.std.proofs.lemmas.Nat.{div-add-mod'}
use Rattle.sand_model.specs.Grid.{north, west, east, south}
use Rattle.sand_model.specs.Sand.{flow}
use Rattle.sand_certify.proofs.OneByOne.{without, without_one, one_by_one}

-- ---- no site is its own neighbour

not_north_or_south : (g : Grid) (i : ℕ) → i < sites g
    → (value_at (one_at i) (north g i) ≡ 0) × (value_at (one_at i) (south g i) ≡ 0)
unfolding north south
not_north_or_south g i l =
    let width = some_width g.width g.height i l in (grind (arith, nat_tests), grind (arith, nat_tests))

not_west_or_east : (g : Grid) (i : ℕ) → IsGrid g → i < sites g
    → (value_at (one_at i) (west g i) ≡ 0) × (value_at (one_at i) (east g i) ≡ 0)
unfolding west east
not_west_or_east g i grid l =
    let parts = div-add-mod' i g.width in
    let wide = grid.wide in
    let wraps = cases_Bool (joins g.edge) in
    (grind (arith, nat_tests), grind (arith, nat_tests))

not_own : (g : Grid) (i : ℕ) → IsGrid g → i < sites g → flow g (one_at i) i ≡ 0
not_own g i grid l =
    omega (arith, flow_four g (one_at i) i, not_north_or_south g i l, not_west_or_east g i grid l)

-- ---- an order from a recurrent pile

-- an order in which exactly the sites of a set burn
record Orders (g : Grid) (s : ℕ → ℕ) (set : ℕ → Bool) : Type 0 where
  order : List ℕ
  only_sites : All (λ i. i < sites g) order
  each : (i : ℕ) → i < sites g → occurrences order i ≡ indicator set i
  in_turn : BurnsInOrder g s order

no_order : (g : Grid) (s : ℕ → ℕ) (set : ℕ → Bool) → ((i : ℕ) → i < sites g → set i ≡ false) → Orders g s set
no_order g s set none = record {
  order = [];
  only_sites = All-nil (λ i. i < sites g);
  each = λ i l. grind (arith, none i l);
  in_turn = tt;
}

one_first : (g : Grid) (s : ℕ → ℕ) (set : ℕ → Bool) (i : ℕ) → i < sites g → set i ≡ true
    → count_by set (neighbours g i) ≤ s i → Orders g s (without set i) → Orders g s set
one_first g s set i l here high rest = record {
  order = i ∷ rest.order;
  only_sites = All-cons (λ j. j < sites g) i rest.order l rest.only_sites;
  each = λ j m. omega (arith, occurrences-cons i rest.order j, rest.each j m, without_one set i j here);
  in_turn = (
    omega (
      arith,
      count_within g (is_in rest.order) set i l
          (λ j m later. grind (arith, nat_tests, cases_Bool (set j), rest.each j m)),
    ),
    rest.in_turn,
  );
}

order_of : (g : Grid) (s : ℕ → ℕ) → IsRecurrent g s → (order : List ℕ) × IsBurningOrder g s order
order_of g s recurrent =
    let all = one_by_one g s (Orders g s) (no_order g s) (one_first g s) (sum_below (sites g) (λ i. 1)) (λ i. true)
    (omega arith) (λ part bad within. recurrent.none part bad) in
    (all.order, record { only_sites = all.only_sites; each_once = all.each; in_turn = all.in_turn })

-- ---- a recurrent pile from an order

-- the first site of the order that is in the set has all other sites of the set after it
first_has_others : (g : Grid) (set : ℕ → Bool) (i : ℕ) (later : List ℕ)
    → IsGrid g → i < sites g → set i ≡ true
    → ((j : ℕ) → j < sites g → set j ≡ true → 1 ≤ occurrences (i ∷ later) j)
    → count_by set (neighbours g i) ≤ count_by (is_in later) (neighbours g i)
unfolding flow
first_has_others g set i later grid l here among = omega (
  arith,
  not_own g i grid l,
  flow_same g (indicator set) (λ j. indicator (without set i) j + one_at i j) (λ j m. without_one set i j here) i l,
  flow-add g (indicator (without set i)) (one_at i) i,
  count_within g (without set i) (is_in later) i l (λ j m others.
      grind (arith, nat_tests, cases_Bool (set j), among j m, occurrences-cons i later j)),
)

-- no set that burns in an order is forbidden
no_forbidden : (g : Grid) (s : ℕ → ℕ) (set : ℕ → Bool) (order : List ℕ) → IsGrid g
    → IsForbidden g s set → All (λ i. i < sites g) order → BurnsInOrder g s order
    → ((j : ℕ) → j < sites g → set j ≡ true → 1 ≤ occurrences order j) → ⊥
no_forbidden g s set [] grid bad below turn among = absurd (omega (arith, among bad.some.0 bad.some.1 bad.some.2))
no_forbidden g s set (i ∷ later) grid bad below turn among =
    let site = All-head (λ j. j < sites g) i later below in
    elim (cases_Bool (set i)) [
      | inl here ↦
          let others = first_has_others g set i later grid site here among in
          absurd (omega (arith, bad.low i site here, turn.0))
      | inr out ↦ no_forbidden g s set later grid bad (All-tail (λ j. j < sites g) i later below) turn.1 (λ j m here.
          let same = ap set {x = i} {y = j} in grind (arith, nat_tests, among j m, occurrences-cons i later j))
    ]

pub burning_decides : (g : Grid) (s : ℕ → ℕ) → IsGrid g → IsStable g s
    → IsRecurrent g s ↔ ((order : List ℕ) × IsBurningOrder g s order)
burning_decides g s grid stable = (
  order_of g s,
  λ some. record {
    stable = stable;
    none = λ set bad. no_forbidden g s set some.0 grid bad some.1.only_sites some.1.in_turn
        (λ j m here. omega (arith, some.1.each_once j m));
  },
)
