-- The places of tiles that leave a wave and are counted.
use Rattle.sand_fronts.proofs.Common.{ℕ, suc, zero, max, List, [], ◌∷◌, ◌++◌, replicate, Vec, Global, length, get_or, cond, eqb, refl, ◌≡◌, ◌≢◌, ◌+◌, ◌*◌, ◌<◌, ◌≤◌, sym, ◌∙◌, ap, arith, ⊎_elim, inl, inr, subst, ◌⊎◌, bit_or, slice_index, vec_capacity, with_item, mul-le-mul_right, set, cases_eq, get_or-set_same, get_or-set_other, length-set, get_or-replicate, nat_tests, sum_below, one_at, sum_below_same, sum_below-add, sum_below-one_at, sum_below_none, Tile, bit, number, Count, counted, times, IsRecent, IsCount, no_recent, bit_le, bit_none, either, both_le, IsClear, tile_at, Counts, spilled_at, over_wave, with_wave, counts_of, marks_of, AreCounted, AddsSet, MarksView, in_sets, AreMarked, IsListed}
use Rattle.sand_tiles.specs.declared.counting.Recent.{Recent}
use Rattle.sand_fronts.proofs.Gained.{tile_set}
use Rattle.sand_fronts.proofs.Sums.{sum_below_most}
use Rattle.sand_fronts.proofs.OnTiles.{height_low}

-- a list of zeros for one tile more
pub one_list : (ss : List (List ℕ)) (m p : ℕ) → p < 64 → spilled_at (ss ++ replicate 64 0 ∷ []) m p ≡ spilled_at ss m p
one_list [] zero p low = get_or-replicate {A = ℕ} 64 p 0 0 low
one_list [] (suc m) p low = refl
one_list (s ∷ ss) zero p low = refl
one_list (s ∷ ss) (suc m) p low = one_list ss m p low

-- the latest topplings of tile k and the lists change, and the counts of the tile grow by a set
pub adds_at : (c : Counts) (ss : Vec (List ℕ) Global) (k word : ℕ) (r : Recent) → k < length c.each.items
    → vec_capacity ss ≡ vec_capacity c.spilled
    → ((p : ℕ) → p < 64 → slice_index c.whole.items k + spilled_at ss.items k p + times r.planes p
    ≡ counted (counts_of c k) p + bit word p)
    → ((m p : ℕ) → m ≢ k → p < 64 → spilled_at ss.items m p ≡ spilled_at c.spilled.items m p)
    → AddsSet k word c (record c { each = with_item c.each k r; spilled = ss })
adds_at c ss k word r inside room grows same =
    let other : (m : ℕ) → m ≢ k → get_or (set c.each.items k r) m no_recent ≡ get_or c.each.items m no_recent =
    λ m ne. get_or-set_other c.each.items k m r no_recent ne in
    record {
      whole_each = refl;
      counts_each = length-set {A = Recent} c.each.items k r;
      room = room;
      marks = refl;
      here = λ p low. rw (get_or-set_same c.each.items k r no_recent inside) (grows p low);
      others_sound = λ m ne before. rw (other m ne) before;
      others = λ m p ne low. rw (other m ne, same m p ne low) refl;
    }

-- one more toppling of all places of tile k at once
pub adds_whole : (c : Counts) (k word n : ℕ) → k < length c.whole.items → n ≡ get_or c.whole.items k 0 + 1
    → ((p : ℕ) → p < 64 → bit word p ≡ 1) → AddsSet k word c (record c { whole = with_item c.whole k n })
adds_whole c k word n inside more full = record {
  whole_each = length-set {A = ℕ} c.whole.items k n;
  counts_each = refl;
  room = refl;
  marks = refl;
  here = λ p low. rw (get_or-set_same c.whole.items k n 0 inside) (omega (arith, more, full p low));
  others_sound = λ m ne before. before;
  others = λ m p ne low. rw (get_or-set_other c.whole.items k m n 0 ne) refl;
}

pub adds_none : {k word : ℕ} {c d e : Counts} → AddsSet k word c d → AddsSet k 0 d e → AddsSet k word c e
adds_none one none = record {
  whole_each = none.whole_each ∙ one.whole_each;
  counts_each = none.counts_each ∙ one.counts_each;
  room = none.room ∙ one.room;
  marks = none.marks ∙ one.marks;
  here = λ p low. omega (arith, one.here p low, none.here p low, bit_none p);
  others_sound = λ m ne before. none.others_sound m ne (one.others_sound m ne before);
  others = λ m p ne low. none.others m p ne low ∙ one.others m p ne low;
}

pub recent_none : {r : Recent} → r ≡ no_recent → IsRecent r
recent_none e =
    subst IsRecent (sym e) (record { bound = omega arith; each = λ p low. let z = bit_none p in omega arith })

-- ---- what is marked

pub marked_none : (c : ℕ → Count) (a : ℕ → ℕ) → AreMarked c c a a
marked_none c a = record {
  never_falls = λ m p low. omega arith;
  kept = λ m p low. omega arith;
  new = λ m p low more. absurd (omega arith);
  no_other = λ m p low. omega arith;
}

pub marked_more : {c d e : ℕ → Count} {x y z : ℕ → ℕ} → AreMarked c d x y → AreMarked d e y z → AreMarked c e x z
marked_more {z = z} first second = record {
  never_falls = λ m p low. omega (arith, first.never_falls m p low, second.never_falls m p low);
  kept = λ m p low. omega (arith, first.kept m p low, second.kept m p low);
  new = λ m p low grown.
      grind (arith, first.new m p low, second.new m p low, second.kept m p low, bit_le (z m) p);
  no_other = λ m p low. omega (
    arith,
    first.no_other m p low,
    second.no_other m p low,
    first.never_falls m p low,
    second.never_falls m p low,
  );
}

-- a place has toppled once more, or as often as before, and is marked if it has
record IsMarkedMore (c d : Count) (a b p : ℕ) : Type 0 where
  more : ℕ
  once : more ≤ 1
  marked : bit b p ≡ max (bit a p) more
  counts : counted d p ≡ counted c p + more

-- the places of a set are counted and marked in tile k
marked_at : {k word : ℕ} {c d : Counts} (x y : ℕ → ℕ) (m p : ℕ) → p < 64 → AddsSet k word c d
    → y m ≡ cond (eqb m k) (bit_or (x m) word) (x m)
    → IsMarkedMore (counts_of c m) (counts_of d m) (x m) (y m) p
marked_at {k} {word} {c} {d} x y m p low added marks =
    let f = either (x m) word p in
    let g = both_le (x m) word p in
    let few = bit_le (bit_or (x m) word) p in
    let one = bit_le word p in
    let here = added.here p low in
    let other : m ≢ k → counted (counts_of d m) p ≡ counted (counts_of c m) p = λ ne. added.others m p ne low in
    record {
      more = cond (eqb m k) (bit word p) 0;
      once = grind (arith, nat_tests);
      marked = grind (arith, nat_tests);
      counts = grind (arith, nat_tests);
    }

pub marked_one : {k word : ℕ} {c d : Counts} (x y : ℕ → ℕ) → AddsSet k word c d
    → ((m : ℕ) → y m ≡ cond (eqb m k) (bit_or (x m) word) (x m)) → AreMarked (counts_of c) (counts_of d) x y
marked_one x y added marks = record {
  never_falls = λ m p low. let a = marked_at x y m p low added (marks m) in omega arith;
  kept = λ m p low. let a = marked_at x y m p low added (marks m) in omega arith;
  new = λ m p low grown. let a = marked_at x y m p low added (marks m) in omega (arith, bit_le (y m) p);
  no_other = λ m p low. let a = marked_at x y m p low added (marks m) in omega arith;
}

-- ---- what is counted

pub counted_more : {ts us vs : List Tile} {c d e : Counts} → AreCounted ts us c d → AreCounted us vs d e
    → AreCounted ts vs c e
counted_more first second = record {
  tiles_each = second.tiles_each ∙ first.tiles_each;
  whole_each = second.whole_each ∙ first.whole_each;
  counts_each = second.counts_each ∙ first.counts_each;
  room = second.room ∙ first.room;
  marks_each = second.marks_each ∙ first.marks_each;
  low = λ m. second.low m ∙ first.low m;
  high = λ m. second.high m ∙ first.high m;
  due = λ m. second.due m ∙ first.due m;
  each = λ m p l. second.each m p l ∙ first.each m p l;
  sound = λ before. second.sound (first.sound before);
  clear = λ m was. second.clear m (first.clear m was);
  marked = marked_more first.marked second.marked;
}

-- the set of tile k is counted and marked, and the tile leaves the wave
pub counted_one : (ts : List Tile) (c d : Counts) (k : ℕ) (marks : MarksView) → k < length ts
    → AddsSet k (tile_at ts k).wave c d → IsCount (counts_of d k) → length marks.sets ≡ length d.marks.sets
    → ((m : ℕ) → slice_index marks.sets m
    ≡ cond (eqb m k) (bit_or (marks_of d m) (tile_at ts k).wave) (marks_of d m))
    → AreCounted ts (set ts k (record (tile_at ts k) { wave = 0 })) c (record d { marks = marks })
counted_one ts c d k marks inside added sound marks_each marked =
    let t : Tile = record (tile_at ts k) { wave = 0 } in
    record {
      tiles_each = length-set {A = Tile} ts k t;
      whole_each = added.whole_each;
      counts_each = added.counts_each;
      room = added.room;
      marks_each = marks_each ∙ ap (λ (x : MarksView). length x.sets) added.marks;
      low = tile_set (λ m x. x.low ≡ (tile_at ts m).low) ts k t inside refl (λ m ne. refl);
      high = tile_set (λ m x. x.high ≡ (tile_at ts m).high) ts k t inside refl (λ m ne. refl);
      due = tile_set (λ m x. x.due ≡ (tile_at ts m).due) ts k t inside refl (λ m ne. refl);
      each = tile_set (λ m x. (p : ℕ) → p < 64 → counted (counts_of d m) p + bit x.wave p
          ≡ with_wave (tile_at ts) (counts_of c) m p) ts k t inside
          (λ p l. omega (arith, added.here p l, bit_none p)) (λ m ne p l. omega (arith, added.others m p ne l));
      sound = λ before m. ⊎_elim (λ (e : m ≡ k). rw e sound)
          (λ (ne : m ≡ k → ⊥). added.others_sound m ne (before m)) (cases_eq m k);
      clear =
          tile_set (λ m x. IsClear (tile_at ts m) → IsClear x) ts k t inside (λ was p l. bit_none p) (λ m ne was. was);
      marked = marked_one (marks_of c) (slice_index marks.sets) added (rw added.marks at marked);
    }

-- ---- numbers

pub sum_less_one : (n k : ℕ) (f h : ℕ → ℕ) → k < n → h k ≡ 0 → ((i : ℕ) → (i ≡ k → ⊥) → h i ≡ f i)
    → f k + sum_below n h ≡ sum_below n f
sum_less_one n k f h inside none others =
    let parts =
    sum_below_same n f (λ i. h i + f k * one_at k i) (λ i l. let o = others i in grind (arith, nat_tests)) in
    omega (arith, sum_below-add n h (λ i. f k * one_at k i), sum_below-one_at n k (λ i. f k) inside)

-- the sum of a function of each place, and of whether it is in the set of its tile
abbrev pub over_sets : ℕ → (ℕ → ℕ → ℕ → ℕ) → (ℕ → ℕ) → ℕ
over_sets n F x = sum_below n (λ k. sum_below 64 (λ p. F k p (bit (x k) p)))

-- the set of tile k is taken out
pub set_less : (n k : ℕ) (F : ℕ → ℕ → ℕ → ℕ) (x y : ℕ → ℕ) → ((i p : ℕ) → F i p 0 ≡ 0) → k < n → y k ≡ 0
    → ((m : ℕ) → m ≢ k → y m ≡ x m) → sum_below 64 (λ p. F k p (bit (x k) p)) + over_sets n F y ≡ over_sets n F x
set_less n k F x y empty inside none others =
    sum_less_one n k (λ m. sum_below 64 (λ p. F m p (bit (x m) p))) (λ m. sum_below 64 (λ p. F m p (bit (y m) p)))
    inside (sum_below_none 64 _ (λ p l. rw (none, bit_none p) (empty k p)))
    (λ m ne. ap (λ w. sum_below 64 (λ p. F m p (bit w p))) (others m ne))

pub over_none : (n : ℕ) (F : ℕ → ℕ → ℕ → ℕ) (x : ℕ → ℕ) → ((i p : ℕ) → F i p 0 ≡ 0)
    → ((m p : ℕ) → p < 64 → bit (x m) p ≡ 0) → over_sets n F x ≡ 0
over_none n F x empty none = sum_below_none n (λ k. sum_below 64 (λ p. F k p (bit (x k) p)))
    (λ k l. sum_below_none 64 (λ p. F k p (bit (x k) p)) (λ p l'. rw (none k p l') (empty k p)))

-- if no place has more than `most`, the places of n tiles have at most 64 times as much each
few_on_places : (n most : ℕ) (f : ℕ → ℕ → ℕ) → ((k p : ℕ) → f k p ≤ most)
    → sum_below n (λ k. sum_below 64 (f k)) ≤ 64 * most * n
few_on_places n most f few = sum_below_most n (64 * most) (λ k. sum_below 64 (f k))
    (λ k l. let one = sum_below_most 64 most (f k) (λ p l'. few k p) in omega arith)

pub few_in_sets : (n : ℕ) (x : ℕ → ℕ) → in_sets n x ≤ 64 * n
few_in_sets n x = few_on_places n 1 (λ k. bit (x k)) (λ k. bit_le (x k))

pub few_over_wave : (n : ℕ) (ν τ : ℕ → Tile) → over_wave n ν τ ≤ 448 * n
few_over_wave n ν τ = few_on_places n 7 (λ k p. number (ν k) p * bit (τ k).wave p)
    (λ k p.
    let a = height_low (ν k) p in
    let c = bit_le (ν k).due p in
    let few : number (ν k) p ≤ 7 = omega arith in
    omega (arith, bit_le (τ k).wave p, mul-le-mul_right (bit (τ k).wave p) few))

-- ---- turn by turn

-- each number is in a list, from one position to before another, or it has P
abbrev pub AreIn : (ℕ → Type 0) → List ℕ → ℕ → ℕ → Type 0
AreIn P list from end = (m : ℕ) → P m ⊎ IsListed list from end m

-- the first of them comes to have Q
pub rest_in : (P Q : ℕ → Type 0) (k : ℕ) (list : List ℕ) (position end : ℕ) → AreIn P list position end
    → ((m : ℕ) → P m → Q m) → Q k → k ≡ slice_index list position → AreIn Q list (position + 1) end
rest_in P Q k list position end listed still here is m = ⊎_elim (λ (was : P m). inl (still m was))
    (λ (at : IsListed list position end m). ⊎_elim
    (λ (now : at.index ≡ position). inl (rw (← at.is, now, ← is) here))
    (λ (later : at.index ≡ position → ⊥).
    inr (record { index = at.index; low = omega (arith, at.low); high = at.high; is = at.is }))
    (cases_eq at.index position))
    (listed m)

pub none_in : (P : ℕ → Type 0) (list : List ℕ) (position end : ℕ) → AreIn P list position end → end ≤ position
    → (m : ℕ) → P m
none_in P list position end listed last m = ⊎_elim (λ (was : P m). was)
    (λ (at : IsListed list position end m). absurd (omega (arith, at.low, at.high)))
    (listed m)
