-- Lists of heights, one for each site.
use Rattle.sand_model.proofs.Common.{ℕ, zero, suc, ◌≡◌, ◌+◌, ◌-◌, ◌*◌, ◌<◌, ◌≤◌, refl, sym, ◌∙◌, ap, arith, List, [], ◌∷◌, length, sum, Option, None, get_or, nat_tests, get_or-set_same, get_or-set_other, sum_by-cons, Grid, sites, places, missing, flow, one_at, value_at, grains, lost, IsToppled}
use Rattle.std.proofs.Math.ListN.{set}
use Rattle.sand_model.specs.Sand.{sum_below}
use Rattle.sand_model.proofs.SumsBelow.{sum_below-one_at}
use Rattle.sand_model.proofs.Flow.{four_places, flow-scale}
use Rattle.sand_model.proofs.Sandpile.{laplacian_sum}

sum_below-first : (n : ℕ) (f : ℕ → ℕ) → sum_below (suc n) f ≡ f 0 + sum_below n (λ i. f (suc i))
unfolding sum_below
sum_below-first zero f = omega arith
sum_below-first (suc n) f = let rest = sum_below-first n f in omega arith

sum_is_sum_below : (xs : List ℕ) → sum xs ≡ sum_below (length xs) (λ i. get_or xs i 0)
unfolding sum_below
sum_is_sum_below [] = refl
sum_is_sum_below (x ∷ xs) =
    sum_by-cons (λ y. y) x xs ∙ ap (λ k. x + k) (sum_is_sum_below xs)
    ∙ sym (sum_below-first (length xs) (λ i. get_or (x ∷ xs) i 0))

pub sum_is_grains : (g : Grid) (xs : List ℕ) → length xs ≡ sites g → sum xs ≡ grains g (λ i. get_or xs i 0)
sum_is_grains g xs e = sum_is_sum_below xs ∙ ap (λ n. sum_below n (λ i. get_or xs i 0)) e

-- each entry after one of them is written
pub get_or-written : (u : List ℕ) (i v j : ℕ) → i < length u
    → get_or (set u i v) j 0 + get_or u i 0 * one_at i j ≡ get_or u j 0 + v * one_at i j
get_or-written u i v j inside =
    let other = get_or-set_other u i j v 0 in
    grind (arith, nat_tests, get_or-set_same u i v 0 inside)

-- each entry after k is added to one of them
pub counted : (i k : ℕ) (u v : List ℕ) → i < length u → v ≡ set u i (get_or u i 0 + k) → (j : ℕ)
    → get_or v j 0 ≡ get_or u j 0 + k * one_at i j
counted i k u v inside e j = let all = get_or-written u i (get_or u i 0 + k) j inside in rw e (omega arith)

-- k topplings of one site take from it what they give to its neighbours
pub toppled_times : (g : Grid) (i k : ℕ) (h q : List ℕ)
    → i < sites g → length h ≡ sites g → 4 * k ≤ get_or h i 0
    → ((j : ℕ) → j < sites g → get_or q j 0 ≡ get_or (set h i (get_or h i 0 - 4 * k)) j 0 + k * flow g (one_at i) j)
    → IsToppled g (λ j. get_or h j 0) (λ j. k * one_at i j) (λ j. get_or q j 0)
toppled_times g i k h q inside each high gives = record {
  balance = λ j l.
      let rest : get_or h i 0 - 4 * k + 4 * k ≡ get_or h i 0 = omega arith in
      omega (
        arith,
        gives j l,
        flow-scale g k (one_at i) j,
        get_or-written h i (get_or h i 0 - 4 * k) j (omega arith),
        ap (λ m. m * one_at i j) rest,
      );
}

-- a site that gave t grains to each of its places toppled t times
pub spread_toppled : (g : Grid) (i t : ℕ) (h k : List ℕ) (ps : List (Option ℕ))
    → ps ≡ places g i → i < sites g → length h ≡ sites g → 4 * t ≤ get_or h i 0
    → ((j : ℕ) → get_or k j 0 ≡ get_or (set h i (get_or h i 0 - 4 * t)) j 0
    + t * value_at (λ m. one_at m j) (get_or ps 0 None) + t * value_at (λ m. one_at m j) (get_or ps 1 None)
    + t * value_at (λ m. one_at m j) (get_or ps 2 None) + t * value_at (λ m. one_at m j) (get_or ps 3 None))
    → IsToppled g (λ j. get_or h j 0) (λ j. t * one_at i j) (λ j. get_or k j 0)
spread_toppled g i t h k ps e l len high after = toppled_times g i t h k l len high
    (λ j m. omega (arith, after j, ap (λ q. t * q) (four_places g i j ps e l m)))

pub toppled_once : (g : Grid) (i : ℕ) (h k : List ℕ)
    → IsToppled g (λ j. get_or h j 0) (λ j. 1 * one_at i j) (λ j. get_or k j 0)
    → IsToppled g (λ j. get_or h j 0) (one_at i) (λ j. get_or k j 0)
toppled_once g i h k done = record { balance = λ j l. omega (arith, done.balance j l, flow-scale g 1 (one_at i) j) }

pub sum_left : (g : Grid) (h k : List ℕ) (v : ℕ → ℕ) → length h ≡ sites g
    → length k ≡ sites g → IsToppled g (λ j. get_or h j 0) v (λ j. get_or k j 0)
    → sum h ≡ sum k + lost g v
sum_left g h k v before after done = omega (
  arith,
  laplacian_sum g (λ j. get_or h j 0) v (λ j. get_or k j 0) done,
  sum_is_grains g h before,
  sum_is_grains g k after,
)

pub spread_sum : (g : Grid) (i : ℕ) (h k : List ℕ)
    → i < sites g → length h ≡ sites g → length k ≡ sites g
    → IsToppled g (λ j. get_or h j 0) (one_at i) (λ j. get_or k j 0)
    → sum k + missing g i ≡ sum h
spread_sum g i h k l lh lk done =
    omega (arith, sum_left g h k (one_at i) lh lk done, sum_below-one_at (sites g) i (missing g) l)
