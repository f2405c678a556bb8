-- A pile that is underway: legal topplings keep it underway, and when no site may topple it is settled.
use Rattle.sand_model.proofs.Common.{ℕ, ◌≡◌, ◌+◌, ◌*◌, ◌<◌, ◌≤◌, arith, nat_tests, Grid, sites, one_at, IsToppled, IsUnderway, IsSettled}
use Rattle.sand_model.specs.Underway.{Advances}
use Rattle.sand_model.proofs.Flow.{flow_same, flow_none, flow-add}
use Rattle.sand_model.proofs.Sandpile.{least_action}

pub underway_start : (g : Grid) (s u : ℕ → ℕ) → ((i : ℕ) → i < sites g → u i ≡ 0) → IsUnderway g s u s
underway_start g s u none = record {
  toppled = record {
    balance = λ i l. omega (arith, flow_none g u i none l, none i l);
  };
  bounded = λ w stable i l. omega (arith, none i l);
}

pub underway_step : (g : Grid) (s u t v r : ℕ → ℕ) (i k : ℕ)
    → i < sites g → 4 * k ≤ t i → IsUnderway g s u t
    → ((j : ℕ) → j < sites g → v j ≡ u j + k * one_at i j)
    → IsToppled g t (λ j. k * one_at i j) r → IsUnderway g s v r
underway_step g s u t v r i k site high before counts after = record {
  toppled = record {
    balance = λ j l. omega (
      arith,
      before.toppled.balance j l,
      after.balance j l,
      flow-add g u (λ m. k * one_at i m) j,
      flow_same g v (λ m. u m + k * one_at i m) counts j l,
      counts j l,
    );
  };
  bounded = λ w stable j l.
      let most = least_action g s u w i k site stable (before.bounded w stable)
      (omega (arith, before.toppled.balance i site)) in
      grind (arith, nat_tests, counts j l, before.bounded w stable j l);
}

pub underway_end : (g : Grid) (s u t : ℕ → ℕ) → IsUnderway g s u t → ((i : ℕ) → i < sites g → t i ≤ 3)
    → IsSettled g s u t
underway_end g s u t done stable = record {
  toppled = done.toppled;
  odometer = record {
    stabilises =
        record { at_most_three = λ i l. omega (arith, done.toppled.balance i l, stable i l) };
    least = done.bounded;
  };
}

-- legal topplings after legal topplings
pub advances_on : {g : Grid} {u t v r w q : ℕ → ℕ} → Advances g u t v r → Advances g v r w q → Advances g u t w q
advances_on first second = record {
  underway = λ s before. second.underway s (first.underway s before);
  weight_pays = omega (arith, first.weight_pays, second.weight_pays);
  grains_fall = omega (arith, first.grains_fall, second.grains_fall);
}
