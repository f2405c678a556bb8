-- A pile of at least 3 grains at each site settles to a recurrent pile.
--
-- Let m be the pile of all 3, t the settled pile of m + a, and u its least odometer. Let F be forbidden in t. If each
-- site of F toppled, toppling each of them once less also stabilises m + a, although u is the least. A site of F that
-- did not topple still has height 3: all four of its neighbours are in F, and none of them toppled. Its northern
-- neighbour is another such site; but there is no endless way north.
use Rattle.sand_group.proofs.Common.{ℕ, zero, suc, Bool, true, ◌≡◌, ◌+◌, ◌-◌, ◌<◌, ◌≤◌, ap, arith, Some, ltb-true, Grid, sites, flow, value_at, IsToppled, IsSettled, count_is_flow, settled_stable, flow_four, some_width, some_from, row_above, IsRecurrent, IsForbidden, flow_at_most_four, north_of_four}
use Rattle.sand_model.specs.Grid.{north}
use Rattle.sand_certify.proofs.TurnsOfOdometer.{tight_if_settled}

north_before : (g : Grid) (i j : ℕ) → i < sites g → north g i ≡ Some j → j < i
unfolding north
north_before g i j l e =
    let at = some_from _ (i - g.width) j e in
    let width = some_width g.width g.height i l in
    let up = ltb-true _ _ at.0 in
    let row = (row_above g.width i width).0 up in
    omega arith

north_flow : (g : Grid) (u : ℕ → ℕ) (i j : ℕ) → north g i ≡ Some j → u j ≤ flow g u i
north_flow g u i j e = omega (arith, flow_four g u i, ap (value_at u) e)

-- each of the first k sites that is in a forbidden set has toppled
all_toppled : (g : Grid) (a u t : ℕ → ℕ) (set : ℕ → Bool)
    → IsToppled g (λ i. 3 + a i) u t → IsForbidden g t set
    → (k i : ℕ) → i < k → i < sites g → set i ≡ true → u i ≡ 0 → ⊥
all_toppled g a u t set done bad zero i l m in' none = absurd (omega arith)
all_toppled g a u t set done bad (suc k) i l m in' none =
    let balance = done.balance i m in
    let low = bad.low i m in' in
    let is = count_is_flow g set i in
    let few = flow_at_most_four g set i in
    let up = north_of_four g set i (omega arith) in
    let little = north_flow g u i up.0 up.1 in
    let before = north_before g i up.0 m up.1 in
    all_toppled g a u t set done bad k up.0 (omega arith) (omega arith) up.2 (omega arith)

pub settled_recurrent : (g : Grid) (a u t : ℕ → ℕ) → IsSettled g (λ i. 3 + a i) u t → IsRecurrent g t
settled_recurrent g a u t done = record {
  stable = settled_stable g (λ i. 3 + a i) u t done;
  none = λ set bad. (tight_if_settled g (λ i. 3 + a i) u t done).none set bad (λ i l in'.
      grind (arith, all_toppled g a u t set done.toppled bad (suc i) i (omega arith) l in'));
}
