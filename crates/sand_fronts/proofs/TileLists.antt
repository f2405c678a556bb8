-- Tiles that join a list when places in them become due.
use Rattle.sand_fronts.proofs.Common.{ℕ, cond, eqb, not, ◌&&◌, List, [], ◌∷◌, ◌++◌, ◌≡◌, ◌+◌, ◌^◌, ◌<◌, length, ◌∙◌, arith, set, nat_tests, common_steps, ListView, Joins, joins_if, joins_more, Tile, waits, but, tile_at, Sand, Gets}

-- a tile whose places become due joins the list if it did not wait before
pub joins_one : (ts : List Tile) (k : ℕ) (x t : Tile) (l m : ListView) → k < length ts
    → x ≡ tile_at ts k → x.due < 2 ^ 64 → t.due < 2 ^ 64 → (0 < x.due → 0 < t.due)
    → m ≡ record l { items = cond (eqb x.due 0 && not (eqb t.due 0)) (l.items ++ k ∷ []) l.items }
    → Joins (length ts) 1 (waits (tile_at ts)) (waits (tile_at (set ts k t))) l m
joins_one ts k x t l m inside read fits fits' grows is =
    joins_if {p = waits (tile_at ts)} {q = waits (tile_at (set ts k t))} inside
    (λ i y ne. grind (arith, nat_tests, common_steps))
    (grind (arith, nat_tests, common_steps)) (grind (arith, nat_tests, common_steps)) is

-- one gain after another
pub gets_more : {free : ℕ → ℕ} {a b : ℕ} {x y : ℕ → ℕ → ℕ} (z : ℕ → ℕ → ℕ) {s t u : Sand}
    → Gets free a x s t → Gets free b y t u
    → ((m p : ℕ) → p < 64 → x m p + y m p ≡ z m p) → Gets free (a + b) z s u
gets_more z first second sums =
    record {
      len = second.len ∙ first.len;
      gains = record {
        wave = λ m p low. second.gains.wave m p low ∙ first.gains.wave m p low;
        due_free = λ before. second.gains.due_free (first.gains.due_free before);
        each = λ m p low is few.
            let e = sums m p low in
            let one = first.gains.each m p low is (omega arith) in
            omega (arith, second.gains.each m p low is (omega arith));
        modulo = λ m p low.
            omega (arith, sums m p low, first.gains.modulo m p low, second.gains.modulo m p low);
      };
      joins = joins_more first.joins (rw first.len at second.joins);
    }

-- a visited tile without due places waits no more
pub visited_waits : (ts : List Tile) (k m : ℕ) (t : Tile) → k < length ts → t.due ≡ 0
    → but k (waits (tile_at ts)) m ≡ waits (tile_at (set ts k t)) m
visited_waits ts k m t inside none = grind (arith, nat_tests, common_steps)

-- the same for two tiles
pub pair_waits : (ts : List Tile) (j k m : ℕ) (t u : Tile) → j < length ts → k < length (set ts j t)
    → t.due ≡ 0 → u.due ≡ 0
    → but k (but j (waits (tile_at ts))) m ≡ waits (tile_at (set (set ts j t) k u)) m
pair_waits ts j k m t u inside inside' none none' = grind (arith, nat_tests, common_steps)
