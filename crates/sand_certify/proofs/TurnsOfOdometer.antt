-- Each odometer has turns that show it: the sites that have toppled burn one by one, and a site's turn is its place in
-- this order.
use Rattle.std.proofs.Common.{ℕ, Bool, true, false, cond, eqb, leb, ltb, ◌≡◌, ◌+◌, ◌-◌, ◌<◌, ◌≤◌, inl, inr, ap, arith, count_by}
use Rattle.std.proofs.lemmas.Bool.{cases_Bool, cases_eq, lt-ltb}
use Rattle.std.proofs.lemmas.Bool.Decides.{nat_tests}
use Rattle.sand_model.specs.Grid.{Grid, sites, neighbours}
use Rattle.sand_model.specs.Lists.{one_if}
use Rattle.sand_model.specs.Sand.{sum_below, Stabilises, IsSettled}
use Rattle.sand_model.specs.Forbidden.{IsForbidden, IsTight}
use Rattle.sand_model.proofs.Bounds.{at_most_all}
use Rattle.sand_model.proofs.Flow.{flow_same, flow-add, indicator, count_is_flow}
use Rattle.sand_model.proofs.Lists.{at_most_one}
use Rattle.sand_model.proofs.NeighboursInSets.{count_within}
use Rattle.sand_model.proofs.Sandpile.{settled_stable}
use Rattle.sand_certify.specs.Certificate.{no_earlier, IsShownEverywhere}
use Rattle.sand_certify.proofs.OneByOne.{without, one_less, one_by_one}

-- ---- no topplings of an odometer can be taken back

-- if the sites of a forbidden set toppled once less, the pile would still be stable
stabilises_without : (g : Grid) (s u t : ℕ → ℕ) (set : ℕ → Bool) → IsSettled g s u t
    → IsForbidden g t set → ((i : ℕ) → i < sites g → set i ≡ true → 0 < u i)
    → Stabilises g s (λ j. u j - one_if (set j))
stabilises_without g s u t set done forbidden toppled = record {
  at_most_three = λ i l.
      let whole = flow_same g (λ j. u j - one_if (set j) + one_if (set j)) u
      (λ j m. grind (arith, cases_Bool (set j), toppled j m)) i l in
      let parts = flow-add g (λ j. u j - one_if (set j)) (indicator set) i in
      let three = (settled_stable g s u t done).low i l in
      grind (
        arith,
        cases_Bool (set i),
        done.toppled.balance i l,
        forbidden.low i l,
        toppled i l,
        count_is_flow g set i,
      );
}

pub tight_if_settled : (g : Grid) (s u t : ℕ → ℕ) → IsSettled g s u t → IsTight g t u
tight_if_settled g s u t done = record {
  none = λ set forbidden toppled.
      let some = forbidden.some in
      let least = done.odometer.least (λ j. u j - one_if (set j))
      (stabilises_without g s u t set done forbidden toppled) some.0 some.1 in
      omega (arith, ap one_if some.2, toppled some.0 some.1 some.2);
}

-- ---- the turns

-- the sites of a set burn at their turns
record HasTurns (g : Grid) (t : ℕ → ℕ) (set : ℕ → Bool) : Type 0 where
  turn : ℕ → ℕ
  bound : (i : ℕ) → turn i ≤ sum_below (sites g) (indicator set)
  members : (i : ℕ) → i < sites g → set i ≡ true → 1 ≤ turn i
  burns : (i : ℕ) → i < sites g → set i ≡ true → no_earlier g turn i ≤ t i

no_turns : (g : Grid) (t : ℕ → ℕ) (set : ℕ → Bool) → ((i : ℕ) → i < sites g → set i ≡ false) → HasTurns g t set
no_turns g t set none = record {
  turn = λ i. 0;
  bound = λ i. omega arith;
  members = λ i l in'. let out = none i l in absurd cc;
  burns = λ i l in'. let out = none i l in absurd cc;
}

-- a site that may burn first has turn 1, and each other turn comes one later
one_first : (g : Grid) (t : ℕ → ℕ) (set : ℕ → Bool) (first : ℕ) → first < sites g → set first ≡ true
    → count_by set (neighbours g first) ≤ t first → HasTurns g t (without set first) → HasTurns g t set
one_first g t set first l here high rest =
    let turn : ℕ → ℕ = λ j. cond (eqb first j) 1 (cond (set j) (rest.turn j + 1) 0) in
    record {
      turn = turn;
      bound = λ i. grind (arith, nat_tests, cases_Bool (set i), rest.bound i, one_less g set first l here);
      members = λ i m in'. grind (arith, nat_tests);
      burns = λ i m in'. elim (cases_eq first i) [
        | inl e ↦ rw (← e) (omega (
          arith,
          count_within g (λ j. leb (turn first) (turn j)) set first l
              (λ j k later. let same = ap set {x = first} {y = j} in grind (arith, nat_tests, cases_Bool (set j))),
        ))
        | inr ne ↦
            let within : without set first i ≡ true = grind (arith, nat_tests) in
            omega (
              arith,
              rest.burns i m within,
              count_within g (λ j. leb (turn i) (turn j)) (λ j. leb (rest.turn i) (rest.turn j)) i m
                  (λ j k later. grind (arith, nat_tests, cases_Bool (set j), rest.members i m within)),
            )
      ];
    }

pub each_odometer_is_shown : (g : Grid) (s u t : ℕ → ℕ) → IsSettled g s u t
    → (turn : ℕ → ℕ) × ((i : ℕ) → turn i ≤ sites g) × IsShownEverywhere g s u turn
each_odometer_is_shown g s u t done =
    let toppled : ℕ → Bool = λ i. ltb 0 (u i) in
    let few = at_most_all (sites g) (indicator toppled) (λ i l. at_most_one (toppled i)) in
    let all = one_by_one g t (HasTurns g t) (no_turns g t) (one_first g t) (sites g) toppled few
    (λ part bad within. (tight_if_settled g s u t done).none part bad
    (λ i l here. grind (arith, nat_tests, within i l here))) in (
      all.turn,
      (λ i. omega (arith, all.bound i)),
      record {
        each = λ i l.
            let e = done.toppled.balance i l in
            let three = (settled_stable g s u t done).low i l in
            record {
              not_negative = omega arith;
              at_most_three = omega arith;
              burns = λ some. omega (arith, all.burns i l (lt-ltb 0 (u i) some));
            };
      },
    )
