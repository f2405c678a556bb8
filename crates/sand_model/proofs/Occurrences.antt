-- How often a site is in a list of sites.
use Rattle.sand_model.proofs.Common.{ℕ, ◌≡◌, ◌+◌, ◌*◌, ◌<◌, sym, ◌∙◌, arith, List, [], ◌∷◌, ◌++◌, length, All, sum_by-cons, sum_by_push, sum_by-append, sum_below, occurrences, one_at}
use Rattle.sand_model.proofs.SumsBelow.{sum_below_same}
use Rattle.sand_model.proofs.Flow.{sum_by_spread}
use Rattle.sand_model.proofs.Sandpile.{sum_by_ones}

pub occurrences-cons : (x : ℕ) (xs : List ℕ) (j : ℕ) → occurrences (x ∷ xs) j ≡ one_at x j + occurrences xs j
occurrences-cons x xs j = sum_by-cons (λ k. one_at k j) x xs

pub occurrences-push : (xs : List ℕ) (x j : ℕ) → occurrences (xs ++ x ∷ []) j ≡ occurrences xs j + one_at x j
occurrences-push xs x j = sum_by_push (λ k. one_at k j) xs x

pub occurrences-append : (xs ys : List ℕ) (j : ℕ) → occurrences (xs ++ ys) j ≡ occurrences xs j + occurrences ys j
occurrences-append xs ys j = sum_by-append (λ k. one_at k j) xs ys

-- the occurrences of all sites in a list sum to its length
pub sum_below-occurrences : (n : ℕ) (xs : List ℕ) → All (λ j. j < n) xs → sum_below n (occurrences xs) ≡ length xs
sum_below-occurrences n xs below =
    sum_below_same n (occurrences xs) (λ j. 1 * occurrences xs j) (λ j l. omega arith)
    ∙ sym (sum_by_spread n (λ j. 1) xs below) ∙ sum_by_ones xs
