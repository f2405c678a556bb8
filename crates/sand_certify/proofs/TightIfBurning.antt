-- If each site that has toppled burns at its turn, no set of such sites is forbidden.
use Rattle.std.proofs.Common.{ℕ, Bool, true, cond, leb, ◌≡◌, ◌+◌, ◌-◌, ◌<◌, ◌≤◌, arith, List, get_or}
use Rattle.std.proofs.lemmas.Bool.{cases_Bool, le-leb}
use Rattle.sand_model.specs.Grid.{Grid, sites}
use Rattle.sand_model.specs.Sand.{IsToppled, IsSettled}
use Rattle.sand_model.specs.Forbidden.{IsTight}
use Rattle.sand_model.proofs.NeighboursInSets.{count_within}
use Rattle.sand_model.proofs.SettledIfTight.{greatest, settled_if_tight}
use Rattle.sand_certify.specs.Certificate.{ToppledSitesBurn, IsShownEverywhere, IsCertificate}

-- a site of the set with the earliest turn, by how much earlier than k each one is
earliest : (n : ℕ) (set : ℕ → Bool) (turn : ℕ → ℕ) (k : ℕ) → k < n → set k ≡ true
    → (i : ℕ) × (i < n) × (set i ≡ true) × ((j : ℕ) → j < n → set j ≡ true → turn i ≤ turn j)
earliest n set turn k l member =
    let first = greatest n (λ j. cond (set j) (turn k + 1 - turn j) 0) (omega arith) in
    let here = first.2 k l in
    let cases = cases_Bool (set first.0) in
    (first.0, first.1, grind arith, λ j m in'. grind (arith, first.2 j m))

-- the neighbours in a set are among those that burn no earlier than its earliest site
pub tight_if_burning : (g : Grid) (t u turn : ℕ → ℕ) → ToppledSitesBurn g t u turn → IsTight g t u
tight_if_burning g t u turn burning = record {
  none = λ set forbidden toppled.
      let some = forbidden.some in
      let first = earliest (sites g) set turn some.0 some.1 some.2 in
      let fewer = count_within g set (λ j. leb (turn first.0) (turn j)) first.0 first.1
      (λ j m member. le-leb (turn first.0) (turn j) (first.3 j m member)) in
      let low = forbidden.low first.0 first.1 first.2 in
      omega (arith, burning.each first.0 first.1 (toppled first.0 first.1 first.2));
}

pub settled_if_left : (g : Grid) (s u t turn : ℕ → ℕ) → IsShownEverywhere g s u turn → IsToppled g s u t
    → IsSettled g s u t
settled_if_left g s u t turn shown done =
    settled_if_tight g s u t done
    (record { low = λ i l. omega (arith, done.balance i l, (shown.each i l).at_most_three) })
    (tight_if_burning g t u turn
    (record { each = λ i l some. omega (arith, done.balance i l, (shown.each i l).burns some) }))

pub settled_if_shown : (g : Grid) (s t : ℕ → ℕ) (counts turns : List ℕ)
    → IsCertificate g s counts turns → IsToppled g s (λ j. get_or counts j 0) t
    → IsSettled g s (λ j. get_or counts j 0) t
settled_if_shown g s t counts turns certificate done =
    settled_if_left g s (λ j. get_or counts j 0) t (λ j. get_or turns j 0) certificate.shown done
