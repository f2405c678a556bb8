-- The sum over a site's neighbours is monotone, additive and self-adjoint.
use Rattle.sand_model.proofs.Common.{ℕ, Bool, ◌≡◌, ◌+◌, ◌*◌, ◌<◌, ◌≤◌, refl, sym, ◌∙◌, ap, arith, List, [], ◌∷◌, All, Option, None, sum_by, count_by, get_or, sum_by-cons, All-head, All-tail, Grid, sites, places, neighbours, sum_below, occurrences, one_at, value_at, one_if}
use Rattle.sand_model.specs.Sand.{flow}
use Rattle.sand_model.proofs.SumsBelow.{sum_below_same, sum_below_both, sum_below-scale, sum_below-zero, sum_below_swap, sum_below-one_at, one_at_comm}
use Rattle.sand_model.proofs.Neighbours.{flow_four, neighbours_mutual, neighbours_below}

sum_by_below_le : (n : ℕ) (u v : ℕ → ℕ) → ((j : ℕ) → j < n → u j ≤ v j) → (xs : List ℕ) → All (λ j. j < n) xs
    → sum_by u xs ≤ sum_by v xs
sum_by_below_le n u v le [] below = omega arith
sum_by_below_le n u v le (x ∷ xs) below =
    let rest = sum_by_below_le n u v le xs (All-tail (λ j. j < n) x xs below) in
    let here = le x (All-head (λ j. j < n) x xs below) in
    rw (sum_by-cons u x xs, sum_by-cons v x xs) (omega arith)

sum_by-add : (u v : ℕ → ℕ) (xs : List ℕ) → sum_by (λ j. u j + v j) xs ≡ sum_by u xs + sum_by v xs
sum_by-add u v [] = refl
sum_by-add u v (x ∷ xs) =
    let rest = sum_by-add u v xs in
    rw (sum_by-cons (λ j. u j + v j) x xs, sum_by-cons u x xs, sum_by-cons v x xs) (omega arith)

sum_by-scale : (c : ℕ) (u : ℕ → ℕ) (xs : List ℕ) → sum_by (λ j. c * u j) xs ≡ c * sum_by u xs
sum_by-scale c u [] = omega arith
sum_by-scale c u (x ∷ xs) =
    let rest = sum_by-scale c u xs in
    rw (sum_by-cons (λ j. c * u j) x xs, sum_by-cons u x xs) (omega arith)

-- a sum over a list of sites, as a sum over all sites
pub sum_by_spread : (n : ℕ) (u : ℕ → ℕ) (xs : List ℕ) → All (λ j. j < n) xs
    → sum_by u xs ≡ sum_below n (λ j. u j * occurrences xs j)
sum_by_spread n u [] below = sym (sum_below_same n (λ j. u j * 0) (λ j. 0) (λ j l. omega arith) ∙ sum_below-zero n)
sum_by_spread n u (x ∷ xs) below =
    let rest = sum_by_spread n u xs (All-tail (λ j. j < n) x xs below) in
    let here = sum_below-one_at n x u (All-head (λ j. j < n) x xs below) in
    let both = sum_below_both n (λ j. u j * one_at x j) (λ j. u j * occurrences xs j)
    (λ j. u j * occurrences (x ∷ xs) j)
    (λ j l. rw (sum_by-cons (λ k. one_at k j) x xs) (omega arith)) in
    sum_by-cons u x xs ∙ (omega arith)

pub flow_le : (g : Grid) (u v : ℕ → ℕ) → ((j : ℕ) → j < sites g → u j ≤ v j) → (i : ℕ) → i < sites g
    → flow g u i ≤ flow g v i
unfolding flow
flow_le g u v le i l = sum_by_below_le (sites g) u v le (neighbours g i) (neighbours_below g i l)

pub flow_same : (g : Grid) (u v : ℕ → ℕ) → ((j : ℕ) → j < sites g → u j ≡ v j) → (i : ℕ) → i < sites g
    → flow g u i ≡ flow g v i
flow_same g u v same i l = omega (
  arith,
  flow_le g u v (λ j m. omega (arith, same j m)) i l,
  flow_le g v u (λ j m. omega (arith, same j m)) i l,
)

pub flow-add : (g : Grid) (u v : ℕ → ℕ) (i : ℕ) → flow g (λ j. u j + v j) i ≡ flow g u i + flow g v i
unfolding flow
flow-add g u v i = sum_by-add u v (neighbours g i)

pub flow-scale : (g : Grid) (c : ℕ) (u : ℕ → ℕ) (i : ℕ) → flow g (λ j. c * u j) i ≡ c * flow g u i
unfolding flow
flow-scale g c u i = sum_by-scale c u (neighbours g i)

-- if no site has toppled, nothing flows
pub flow_none : (g : Grid) (u : ℕ → ℕ) (j : ℕ) → ((i : ℕ) → i < sites g → u i ≡ 0) → j < sites g → flow g u j ≡ 0
flow_none g u j none l =
    omega (arith, flow_same g u (λ i. 0 * u i) (λ i m. omega (arith, none i m)) j l, flow-scale g 0 u j)

-- the flow as a sum over all sites, each as often as it is a neighbour
flow_spread : (g : Grid) (u : ℕ → ℕ) (i : ℕ) → i < sites g
    → flow g u i ≡ sum_below (sites g) (λ j. u j * occurrences (neighbours g i) j)
unfolding flow
flow_spread g u i l = sum_by_spread (sites g) u (neighbours g i) (neighbours_below g i l)

-- flow is self-adjoint: f * flow u and u * flow f have the same sum
pub flow_self_adjoint : (g : Grid) (f u : ℕ → ℕ)
    → sum_below (sites g) (λ i. f i * flow g u i) ≡ sum_below (sites g) (λ i. u i * flow g f i)
flow_self_adjoint g f u =
    sum_below_same (sites g) (λ i. f i * flow g u i)
    (λ i. sum_below (sites g) (λ j. f i * (u j * occurrences (neighbours g i) j)))
    (λ i l. ap (λ k. f i * k) (flow_spread g u i l)
    ∙ sym (sum_below-scale (sites g) (f i) (λ j. u j * occurrences (neighbours g i) j)))
    ∙ sum_below_swap (sites g) (sites g) (λ i j. f i * (u j * occurrences (neighbours g i) j))
    ∙ sum_below_same (sites g)
    (λ j. sum_below (sites g) (λ i. f i * (u j * occurrences (neighbours g i) j))) (λ j. u j * flow g f j)
    (λ j m.
    sum_below_same (sites g) (λ i. f i * (u j * occurrences (neighbours g i) j))
    (λ i. u j * (f i * occurrences (neighbours g j) i))
    (λ i l. let both = neighbours_mutual g i j l m in rw both (omega arith))
    ∙ sum_below-scale (sites g) (u j) (λ i. f i * occurrences (neighbours g j) i)
    ∙ ap (λ k. u j * k) (sym (flow_spread g f j m)))

-- one toppling at i gives j a grain for each time that j is a neighbour of i
pub flow-one_at : (g : Grid) (i j : ℕ) → i < sites g → j < sites g → flow g (one_at i) j ≡ flow g (λ k. one_at k j) i
unfolding flow
flow-one_at g i j li lj =
    flow_same g (one_at i) (λ k. one_at k i) (λ k m. one_at_comm i k) j lj ∙ neighbours_mutual g j i lj li

-- the same, place by place
pub four_places : (g : Grid) (i j : ℕ) (ps : List (Option ℕ)) → ps ≡ places g i → i < sites g → j < sites g
    → flow g (one_at i) j ≡ value_at (λ m. one_at m j) (get_or ps 0 None)
    + value_at (λ m. one_at m j) (get_or ps 1 None) + value_at (λ m. one_at m j) (get_or ps 2 None)
    + value_at (λ m. one_at m j) (get_or ps 3 None)
four_places g i j ps e l m = rw e (flow-one_at g i j l m ∙ flow_four g (λ q. one_at q j) i)

-- ---- how many neighbours of a site are in a set

abbrev pub indicator : (ℕ → Bool) → ℕ → ℕ
indicator set j = one_if (set j)

pub count_is_flow : (g : Grid) (set : ℕ → Bool) (i : ℕ) → count_by set (neighbours g i) ≡ flow g (indicator set) i
unfolding flow
count_is_flow g set i = refl
