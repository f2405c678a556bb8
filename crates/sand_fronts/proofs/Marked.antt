-- The sets of the sites that a drop has toppled, and the list of the tiles whose sets are not empty.
use Rattle.sand_fronts.proofs.Common.{ℕ, ltb, ◌≡◌, ◌+◌, ◌<◌, ◌∙◌, arith, suc, List, [], ◌∷◌, ◌≤◌, inl, inr, length, get_or, refl, sym, ⊎_elim, nat_tests, slice_index, get_or_default_zero, get_or-eq_default, cases_eq, Grid, sites, sum_below, occurrences, one_if, Lists, sum_below_same, one_at_other, listed, read_below, bit, Count, counted, bit_none, tiles, on_tiles, grown_on, in_sets, AreMarked, has_mark}
use Rattle.sand_model.proofs.Occurrences.{occurrences-cons}
use Rattle.sand_fronts.proofs.Sums.{sum_on_tiles}
use Rattle.sand_fronts.proofs.OnTiles.{on_each}
use Rattle.sand_fronts.proofs.Counted.{over_none, AreIn, none_in}

-- a place is marked if and only if it is a site that has toppled
pub marked_word : (g : Grid) (c d : ℕ → Count) (a b : ℕ → ℕ) (m p : ℕ)
    → p < 64 → AreMarked c d a b → ((k : ℕ) → a k ≡ 0)
    → ((k q : ℕ) → q < 64 → counted (d k) q ≡ counted (c k) q + on_tiles g (grown_on g c d) k q)
    → bit (b m) p ≡ on_tiles g (λ j. one_if (ltb 0 (grown_on g c d j))) m p
marked_word g c d a b m p low marked none counts =
    let before : bit (a m) p ≡ 0 = rw none (bit_none p) in
    let most = marked.no_other m p low in
    let some = marked.new m p low in
    on_each g m p (λ (r : (ℕ → ℕ) → ℕ). counted (d m) p ≡ counted (c m) p + r (grown_on g c d)
    → bit (b m) p ≡ r (λ j. one_if (ltb 0 (grown_on g c d j)))) low
    (λ j l grown. grind (arith, nat_tests)) (λ grown. omega arith) (counts m p low)

-- so the sets have as many places as sites have toppled
pub area_is : (g : Grid) (v b : ℕ → ℕ) → ((m p : ℕ) → p < 64 → bit (b m) p ≡ on_tiles g v m p)
    → in_sets (tiles g) b ≡ sum_below (sites g) v
area_is g v b each =
    sum_below_same (tiles g) (λ k. sum_below 64 (bit (b k))) (λ k. sum_below 64 (on_tiles g v k))
    (λ k l. sum_below_same 64 (bit (b k)) (on_tiles g v k) (each k)) ∙ sum_on_tiles g v

-- ---- the list

-- a tile that is read from the list has a set
pub tile_below : (ws list : List ℕ) (position k : ℕ) → Lists (length ws) (has_mark ws) list → position < length list
    → k ≡ get_or list position 0 → k < length ws
tile_below ws list position k lists less is = read_below (length ws) (has_mark ws) list position k lists less
    (is ∙ sym (get_or_default_zero list position k less))

turn_of : (xs : List ℕ) (i : ℕ) → 1 ≤ occurrences xs i → (t : ℕ) × (t < length xs) × (get_or xs t 0 ≡ i)
turn_of [] i some = absurd (omega arith)
turn_of (x ∷ xs) i some = ⊎_elim
    (λ (e : x ≡ i). (0, omega arith, e))
    (λ (ne : x ≡ i → ⊥).
    let later = turn_of xs i (omega (arith, occurrences-cons x xs i, one_at_other x i ne)) in
    (suc later.0, omega (arith, later.1), later.2))
    (cases_eq x i)

pub empty_or_listed : (ws list : List ℕ) → Lists (length ws) (has_mark ws) list
    → AreIn (λ m. slice_index ws m ≡ 0) list 0 (length list)
empty_or_listed ws list lists m = ⊎_elim (λ (none : slice_index ws m ≡ 0). inl none)
    (λ (some : slice_index ws m ≡ 0 → ⊥).
    let past : length ws ≤ m → slice_index ws m ≡ 0 = get_or-eq_default ws 0 in
    let once = listed (length ws) (has_mark ws) list m lists (grind arith) (grind (arith, nat_tests)) in
    let turn = turn_of list m (omega arith) in
    inr (record { index = turn.0; low = omega arith; high = turn.1; is = turn.2 }))
    (cases_eq (slice_index ws m) 0)

-- with an empty list, all sets are empty
pub all_empty : (n : ℕ) (ws list : List ℕ) → Lists (length ws) (has_mark ws) list → length list ≡ 0
    → ((m : ℕ) → slice_index ws m ≡ 0) × (in_sets n (slice_index ws) ≡ 0)
all_empty n ws list lists none =
    let each = none_in (λ m. slice_index ws m ≡ 0) list 0 (length list) (empty_or_listed ws list lists) (omega arith) in
    (each, over_none n (λ i p b. b) (slice_index ws) (λ i p. refl) (λ m p low. rw each (bit_none p)))
